use Rattle.frame_laws.proofs.HeadlessPoints.{headless_price}
use Rattle.frame_laws.proofs.headless.headless_price.Goals as goal

pub returns : goal.returns
returns c = headless_price
