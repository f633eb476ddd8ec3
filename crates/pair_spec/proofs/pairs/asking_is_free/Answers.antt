use Rattle.pair_spec.proofs.Asking.{asking_is_free}
use Rattle.pair_spec.proofs.pairs.asking_is_free.Goals as goal

pub returns : goal.returns
returns c = asking_is_free
