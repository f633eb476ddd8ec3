use Rattle.frame_laws.proofs.OneFramePrice.{one_whole_price}
use Rattle.frame_laws.proofs.prices.one_whole_price.Goals as goal

pub returns : goal.returns
returns c = one_whole_price
