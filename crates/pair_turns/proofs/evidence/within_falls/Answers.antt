use Rattle.pair_turns.proofs.PairPrices.{within_falls}
use Rattle.pair_turns.proofs.evidence.within_falls.Goals as goal

pub returns : goal.returns
returns c = within_falls
