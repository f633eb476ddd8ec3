use Rattle.std.proofs.Common.{sym, subst, arith}
use Rattle.bil_ast.specs.declared.names.Var.{Var}
use Rattle.bil_ast.specs.Views.{variable_of}
use Rattle.bil_terms.specs.Naming.{IsVariableTerm}
use Rattle.bil_terms.proofs.Scopes.{register_within, flag_within, register_term, flag_term}
use Rattle.bil_terms.proofs.variables.variable_term.Goals as goal

pub overflow_sub-number : goal.overflow_sub-number
overflow_sub-number c = (register_within c.args.names.now c.args.locals.now _ c.in-Register.number (rw c.in-Register.is at c.requires.word)).0

pub index-requires : goal.index-requires
index-requires c =
    let w = register_within c.args.names.now c.args.locals.now _ c.in-Register.number (rw c.in-Register.is at c.requires.word) in
    omega (arith, w.0, w.1, c.args.names.now.registers.ok.0)

pub index-requires-in-Flag : goal.index-requires-in-Flag
index-requires-in-Flag c =
    let w = flag_within c.args.names.now c.args.locals.now c.in-Flag.number (rw c.in-Flag.is at c.requires.word) in
    omega (arith, w, c.args.names.now.flags.ok.0)

pub returns-in-Register : goal.returns-in-Register
returns-in-Register c =
    subst (λ (x : Var). IsVariableTerm c.args.dag.now c.args.names.now c.args.locals.now (variable_of x) c.index.result.now.0) (sym c.in-Register.is)
    (register_term c.args.dag.now c.args.names.now c.args.locals.now c.args.live.0 _ c.in-Register.number c.index.result.now c.requires.scope
    (rw c.in-Register.is at c.requires.word) c.index.ensures)

pub returns-in-Flag : goal.returns-in-Flag
returns-in-Flag c =
    subst (λ (x : Var). IsVariableTerm c.args.dag.now c.args.names.now c.args.locals.now (variable_of x) c.index-in-Flag.result.now.0) (sym c.in-Flag.is)
    (flag_term c.args.dag.now c.args.names.now c.args.locals.now c.args.live.0 c.in-Flag.number c.index-in-Flag.result.now c.requires.scope
    (rw c.in-Flag.is at c.requires.word) c.index-in-Flag.ensures)
