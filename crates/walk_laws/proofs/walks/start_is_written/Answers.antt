use Rattle.walk_laws.proofs.StartReadings.{start_is_written}
use Rattle.walk_laws.proofs.walks.start_is_written.Goals as goal

pub returns : goal.returns
returns c = start_is_written
