use Rattle.pair_spec.proofs.OnePair.{not_different_is_equal}
use Rattle.pair_spec.proofs.pairs.not_different_is_equal.Goals as goal

pub returns : goal.returns
returns c = not_different_is_equal
