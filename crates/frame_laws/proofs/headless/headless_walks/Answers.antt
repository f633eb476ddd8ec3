use Rattle.frame_laws.proofs.HeadlessWalks.{headless_walks}
use Rattle.frame_laws.proofs.headless.headless_walks.Goals as goal

pub returns : goal.returns
returns c = headless_walks
