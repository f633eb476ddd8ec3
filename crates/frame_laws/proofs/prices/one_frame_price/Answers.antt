use Rattle.frame_laws.proofs.OneFramePrice.{one_frame_price}
use Rattle.frame_laws.proofs.prices.one_frame_price.Goals as goal

pub returns : goal.returns
returns c = one_frame_price
