use Rattle.frame_laws.proofs.HeadlessPoints.{headless_points}
use Rattle.frame_laws.proofs.headless.headless_points.Goals as goal

pub returns : goal.returns
returns c = headless_points
