use Rattle.bilv_spec.proofs.Over.{one_end}
use Rattle.bilv_spec.proofs.runs.one_end.Goals as goal

pub returns : goal.returns
returns c = one_end
