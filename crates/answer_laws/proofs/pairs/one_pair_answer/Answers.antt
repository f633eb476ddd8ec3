use Rattle.answer_laws.proofs.EqualFindings.{one_pair_answer}
use Rattle.answer_laws.proofs.pairs.one_pair_answer.Goals as goal

pub returns : goal.returns
returns c = one_pair_answer
