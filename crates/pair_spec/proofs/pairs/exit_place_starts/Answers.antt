use Rattle.pair_spec.proofs.ExitInputs.{exit_place_starts}
use Rattle.pair_spec.proofs.pairs.exit_place_starts.Goals as goal

pub returns : goal.returns
returns c = exit_place_starts
