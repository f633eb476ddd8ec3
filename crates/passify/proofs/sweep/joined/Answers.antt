use Rattle.std.proofs.Common.{Option, subst, sym}
use Rattle.term_names.specs.declared.names.Names.{Names}
use Rattle.passify.specs.Sweeps.{IsJoined}
use Rattle.passify.proofs.Joined.{selected_joined, copied_joined}
use Rattle.passify.proofs.sweep.joined.Goals as goal

pub returns-in_ok-names-in-Some : goal.returns-in_ok-names-in-Some
returns-in_ok-names-in-Some c =
    subst (λ (z : Option Names). IsJoined c.args.names.now c.args.dag.now c.selected.new.dag c.args.hit.0 c.args.met.0 c.args.names.now z
    c.in_ok-names-in-Some.names) (sym c.in-Some.is)
    (selected_joined c.args.dag.now c.selected.new.dag c.args.hit.0 c.args.met.0 c.separator-first.result.0 c.args.names.now c.in-Some.state
    c.in_ok-names-in-Some.names c.separator-first.ensures c.in_ok-names-in-Some.ensures)

pub returns-in_ok-names-in-None : goal.returns-in_ok-names-in-None
returns-in_ok-names-in-None c =
    subst (λ (z : Option Names). IsJoined c.args.names.now c.args.dag.now c.args.dag.now c.args.hit.0 c.args.met.0 c.args.names.now z
    c.in_ok-names-in-None.names) (sym c.in-None.is)
    (copied_joined c.args.dag.now c.args.hit.0 c.args.met.0 c.args.names.now c.in_ok-names-in-None.names c.requires.names c.in_ok-names-in-None.ensures)
