use Rattle.pair_spec.proofs.PairStarts.{values_give_pair}
use Rattle.pair_spec.proofs.pairs.values_give_pair.Goals as goal

pub returns : goal.returns
returns c = values_give_pair
