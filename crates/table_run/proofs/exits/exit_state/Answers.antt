use Rattle.std.proofs.Common.{◌∙◌, refl, subst, IfSome, IfNone}
use Rattle.program_value.specs.Programs.{program_of}
use Rattle.bilv_spec.specs.Answers.{start_in}
use Rattle.machine_spec.specs.Endings.{Start}
use Rattle.start_value.specs.Starts.{written_of}
use Rattle.table_run.specs.Exits.{IsExit, IsNoExit}
use Rattle.table_run.proofs.Founds.{start_is}
use Rattle.table_run.proofs.exits.exit_state.Goals as goal

pub returns-clause-some : goal.returns-clause-some
returns-clause-some g c =
    let p = program_of c.args.program.now in
    let w = written_of c.args.start.now in
    subst (λ (s : Start). IfSome c.in_ok-exit.exit (λ t. IsExit p s c.args.number (g.M.State.View.view t)))
    (start_is (start_in p g.M.Machine.form w) (g.M.State.View.view c.in_ok-first.first) c.deref.result.now w.choices
    (c.in_ok-first.ensures ∙ c.in_ok-state.ensures) refl c.deref.ensures.value)
    c.in_ok-exit.ensures.some

pub returns-clause-none : goal.returns-clause-none
returns-clause-none g c =
    let p = program_of c.args.program.now in
    let w = written_of c.args.start.now in
    subst (λ (s : Start). IfNone c.in_ok-exit.exit (IsNoExit p s c.args.number))
    (start_is (start_in p g.M.Machine.form w) (g.M.State.View.view c.in_ok-first.first) c.deref.result.now w.choices
    (c.in_ok-first.ensures ∙ c.in_ok-state.ensures) refl c.deref.ensures.value)
    c.in_ok-exit.ensures.none
