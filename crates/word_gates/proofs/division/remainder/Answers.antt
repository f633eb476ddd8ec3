use Rattle.word_gates.proofs.Quotients.{urem_from}
use Rattle.word_gates.proofs.division.remainder.Goals as goal

pub returns-clause-value : goal.returns-clause-value
returns-clause-value c = λ v h. urem_from _ _ _ _ _ (c.in_ok-parts.ensures.value v h)
