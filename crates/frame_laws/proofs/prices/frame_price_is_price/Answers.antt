use Rattle.frame_laws.proofs.FramePriceLaw.{frame_price_is_price}
use Rattle.frame_laws.proofs.prices.frame_price_is_price.Goals as goal

pub returns : goal.returns
returns c = frame_price_is_price
