use Rattle.passify.proofs.Pushed.{turn_steps, turn_hands}
use Rattle.passify.proofs.sweep.turn.Goals as goal

pub returns-clause-steps : goal.returns-clause-steps
returns-clause-steps c = turn_steps c.args.dag.now c.either.new.dag c.args.sweep.now c.args.hit.0 c.in_ok-sweep.field-0 c.requires.well c.in_ok-sweep.ensures

pub returns-clause-hands : goal.returns-clause-hands
returns-clause-hands c = turn_hands c.args.dag.now c.either.new.dag c.args.sweep.now c.args.hit.0 c.in_ok-sweep.field-0 c.requires.well c.in_ok-sweep.ensures
