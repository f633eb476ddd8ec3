use Rattle.seen_step.proofs.Steps.{looked}
use Rattle.seen_step.proofs.looks.look.Goals as goal

pub returns-clause-looked : goal.returns-clause-looked
returns-clause-looked g c =
    looked g.M.Machine.form c.deref.result.now (g.M.State.View.view c.args.state.now) _ c.deref.ensures.value c.in_ok-values.ensures
