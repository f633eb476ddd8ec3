use Rattle.answer_laws.proofs.Compared.{difference_is_replayed}
use Rattle.answer_laws.proofs.pairs.difference_is_replayed.Goals as goal

pub returns : goal.returns
returns c = difference_is_replayed
