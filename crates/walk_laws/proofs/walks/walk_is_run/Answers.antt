use Rattle.walk_laws.proofs.WalkRuns.{walk_is_run}
use Rattle.walk_laws.proofs.walks.walk_is_run.Goals as goal

pub returns : goal.returns
returns c = walk_is_run
