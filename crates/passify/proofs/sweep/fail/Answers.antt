use Rattle.passify.proofs.Pushed.{fail_steps, fail_hands}
use Rattle.passify.proofs.sweep.fail.Goals as goal

pub returns-clause-steps : goal.returns-clause-steps
returns-clause-steps c = fail_steps c.args.dag.now c.either.new.dag c.args.sweep.now c.args.hit.0 c.in_ok-sweep.field-0 c.requires.well c.in_ok-sweep.ensures

pub returns-clause-hands : goal.returns-clause-hands
returns-clause-hands c = fail_hands c.args.dag.now c.either.new.dag c.args.sweep.now c.args.hit.0 c.in_ok-sweep.field-0 c.requires.well c.in_ok-sweep.ensures
