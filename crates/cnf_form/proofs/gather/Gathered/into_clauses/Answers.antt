use Rattle.std.proofs.Common.{sym}
use Rattle.cnf_form.proofs.Gatherings.{clauses-now}
use Rattle.cnf_form.proofs.gather.Gathered.into_clauses.Goals as goal

pub returns : goal.returns
returns c = clauses-now c.self.inside.ended.items c.self.inside.unended c.args.self (sym c.self.view_is) c.self.invariant c.requires
