use Rattle.arm_step.specs.States.{state_of}
use Rattle.arm_lift.proofs.Starts.{same_either}
use Rattle.arm_lift.proofs.machine.ArmMachine.reserve.Goals as goal

pub returns-clause-same : goal.returns-clause-same
returns-clause-same g c = same_either c.reserve.result state_of c.args.state.now c.reserve.new.self c.reserve.ensures.state c.reserve.ensures.err
