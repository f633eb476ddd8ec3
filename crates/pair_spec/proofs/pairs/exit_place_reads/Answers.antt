use Rattle.pair_spec.proofs.ExitInputs.{exit_place_reads}
use Rattle.pair_spec.proofs.pairs.exit_place_reads.Goals as goal

pub returns : goal.returns
returns c = exit_place_reads
