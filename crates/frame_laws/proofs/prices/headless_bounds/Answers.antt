use Rattle.frame_laws.proofs.FrameSums.{headless_bounds}
use Rattle.frame_laws.proofs.prices.headless_bounds.Goals as goal

pub returns : goal.returns
returns c = headless_bounds
