use Rattle.pair_spec.proofs.DifferenceTold.{difference_replays}
use Rattle.pair_spec.proofs.pairs.difference_replays.Goals as goal

pub returns : goal.returns
returns c = difference_replays
