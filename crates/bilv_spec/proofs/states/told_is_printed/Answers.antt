use Rattle.machine_spec.proofs.StateRead.{told_is_printed}
use Rattle.bilv_spec.proofs.states.told_is_printed.Goals as goal

pub returns : goal.returns
returns c = told_is_printed
