use Rattle.std.proofs.Common.{◌∙◌}
use Rattle.word_gates.proofs.Sums.{mul_swap}
use Rattle.word_gates.proofs.arithmetic.product.Goals as goal

pub returns-then-is_constant-clause-made : goal.returns-then-is_constant-clause-made
returns-then-is_constant-clause-made c = rw c.requires.same c.in_ok-word.ensures.made

pub returns-then-is_constant-clause-value : goal.returns-then-is_constant-clause-value
returns-then-is_constant-clause-value c = λ v h. rw c.requires.same (c.in_ok-word.ensures.value v h ∙ mul_swap _ _ _)
