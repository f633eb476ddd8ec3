use Rattle.frame_turns.proofs.Prices.{frame_prices_rise}
use Rattle.frame_turns.proofs.evidence.frame_prices_rise.Goals as goal

pub returns : goal.returns
returns c = frame_prices_rise
