use Rattle.bil_terms.proofs.Leads.{named_register}
use Rattle.bil_terms.proofs.lists.assign.Goals as goal

pub assign_register-requires-clause-low : goal.assign_register-requires-clause-low
assign_register-requires-clause-low c = (named_register c.args.run.now.names c.args.variable c.in-Register.field-0 c.in-Register.number c.in-Register.is
    c.requires.known).0

pub assign_register-requires-clause-high : goal.assign_register-requires-clause-high
assign_register-requires-clause-high c = (named_register c.args.run.now.names c.args.variable c.in-Register.field-0 c.in-Register.number c.in-Register.is
    c.requires.known).1
