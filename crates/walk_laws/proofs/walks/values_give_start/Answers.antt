use Rattle.walk_laws.proofs.StartReadings.{values_give_start}
use Rattle.walk_laws.proofs.walks.values_give_start.Goals as goal

pub returns : goal.returns
returns c = values_give_start
