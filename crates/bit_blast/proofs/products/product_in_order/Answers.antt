use Rattle.std.proofs.Common.{◌∙◌}
use Rattle.word_gates.proofs.Sums.{mul_swap}
use Rattle.bit_blast.proofs.products.product_in_order.Goals as goal

pub returns-then-is_turned-clause-made : goal.returns-then-is_turned-clause-made
returns-then-is_turned-clause-made c = rw c.requires.same c.in_ok-word.ensures.made

pub returns-then-is_turned-clause-value : goal.returns-then-is_turned-clause-value
returns-then-is_turned-clause-value c = λ v h. rw c.requires.same (c.in_ok-word.ensures.value v h ∙ mul_swap _ _ _)
