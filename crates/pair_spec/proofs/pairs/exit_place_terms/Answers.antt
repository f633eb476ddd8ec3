use Rattle.pair_spec.proofs.ExitInputs.{exit_place_terms}
use Rattle.pair_spec.proofs.pairs.exit_place_terms.Goals as goal

pub returns : goal.returns
returns c = exit_place_terms
