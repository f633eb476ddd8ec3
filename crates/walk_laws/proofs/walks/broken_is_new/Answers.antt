use Rattle.walk_laws.proofs.StartReadings.{broken_is_new}
use Rattle.walk_laws.proofs.walks.broken_is_new.Goals as goal

pub returns : goal.returns
returns c = broken_is_new
