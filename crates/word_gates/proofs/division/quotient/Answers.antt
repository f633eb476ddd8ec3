use Rattle.word_gates.proofs.Quotients.{udiv_from}
use Rattle.word_gates.proofs.division.quotient.Goals as goal

pub returns-clause-value : goal.returns-clause-value
returns-clause-value c = λ v h. udiv_from _ _ _ _ _ (c.in_ok-parts.ensures.value v h)
