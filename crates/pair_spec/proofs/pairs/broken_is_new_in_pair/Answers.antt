use Rattle.pair_spec.proofs.PairStarts.{broken_is_new_in_pair}
use Rattle.pair_spec.proofs.pairs.broken_is_new_in_pair.Goals as goal

pub returns : goal.returns
returns c = broken_is_new_in_pair
