use Rattle.std.proofs.lemmas.Nat.{and_comm, or_comm, xor_comm}
use Rattle.term_dag.proofs.operators.is_symmetric.Goals as goal

pub returns-in-And : goal.returns-in-And
returns-in-And c = λ t w a b. rw c.in-And.is (and_comm a b)

pub returns-in-Or : goal.returns-in-Or
returns-in-Or c = λ t w a b. rw c.in-Or.is (or_comm a b)

pub returns-in-Xor : goal.returns-in-Xor
returns-in-Xor c = λ t w a b. rw c.in-Xor.is (xor_comm a b)
