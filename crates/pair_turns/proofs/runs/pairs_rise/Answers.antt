use Rattle.pair_turns.proofs.PairsAlike.{pairs_rise}
use Rattle.pair_turns.proofs.runs.pairs_rise.Goals as goal

pub returns : goal.returns
returns c = pairs_rise
