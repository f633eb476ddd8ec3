use Rattle.pair_spec.proofs.ExitLaws.{one_exit}
use Rattle.pair_spec.proofs.pairs.one_exit.Goals as goal

pub returns : goal.returns
returns c = one_exit
