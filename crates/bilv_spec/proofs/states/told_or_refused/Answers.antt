use Rattle.machine_spec.proofs.StateRead.{told_or_refused}
use Rattle.bilv_spec.proofs.states.told_or_refused.Goals as goal

pub returns : goal.returns
returns c = told_or_refused
