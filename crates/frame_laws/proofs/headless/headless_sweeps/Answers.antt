use Rattle.frame_laws.proofs.HeadlessWalks.{headless_sweeps}
use Rattle.frame_laws.proofs.headless.headless_sweeps.Goals as goal

pub returns : goal.returns
returns c = headless_sweeps
