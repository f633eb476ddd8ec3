use Rattle.answer_laws.proofs.EqualFindings.{one_pair_price}
use Rattle.answer_laws.proofs.pairs.one_pair_price.Goals as goal

pub returns : goal.returns
returns c = one_pair_price
