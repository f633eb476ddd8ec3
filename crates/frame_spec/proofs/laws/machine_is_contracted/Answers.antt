use Rattle.frame_spec.proofs.Machines.{machine_is_contracted}
use Rattle.frame_spec.proofs.laws.machine_is_contracted.Goals as goal

pub returns : goal.returns
returns c = machine_is_contracted
