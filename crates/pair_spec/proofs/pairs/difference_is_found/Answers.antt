use Rattle.pair_spec.proofs.DifferenceFound.{difference_is_found}
use Rattle.pair_spec.proofs.pairs.difference_is_found.Goals as goal

pub returns : goal.returns
returns c = difference_is_found
