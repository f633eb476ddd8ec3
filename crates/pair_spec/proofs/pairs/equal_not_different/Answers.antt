use Rattle.pair_spec.proofs.OnePair.{equal_not_different}
use Rattle.pair_spec.proofs.pairs.equal_not_different.Goals as goal

pub returns : goal.returns
returns c = equal_not_different
