use Rattle.pair_turns.proofs.PairPrices.{pair_prices_rise}
use Rattle.pair_turns.proofs.evidence.pair_prices_rise.Goals as goal

pub returns : goal.returns
returns c = pair_prices_rise
