use Rattle.pair_turns.proofs.PairsAlike.{exits_rise}
use Rattle.pair_turns.proofs.runs.exits_rise.Goals as goal

pub returns : goal.returns
returns c = exits_rise
