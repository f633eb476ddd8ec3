use Rattle.machine_spec.proofs.ShortTable.{one_short}
use Rattle.machine_spec.proofs.tables.one_short.Goals as goal

pub returns : goal.returns
returns c = one_short
