use Rattle.pair_spec.proofs.ExitInputs.{exit_is_own}
use Rattle.pair_spec.proofs.pairs.exit_is_own.Goals as goal

pub returns : goal.returns
returns c = exit_is_own
