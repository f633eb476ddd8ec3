use Rattle.walk_laws.proofs.StartReadings.{start_breaks_none}
use Rattle.walk_laws.proofs.walks.start_breaks_none.Goals as goal

pub returns : goal.returns
returns c = start_breaks_none
