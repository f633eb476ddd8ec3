use Rattle.pair_spec.proofs.ExitLaws.{run_has_exit}
use Rattle.pair_spec.proofs.pairs.run_has_exit.Goals as goal

pub returns : goal.returns
returns c = run_has_exit
