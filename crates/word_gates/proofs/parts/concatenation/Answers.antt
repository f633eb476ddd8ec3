use Rattle.std.proofs.Common.{◌≡◌, arith}
use Rattle.std.proofs.lemmas.Grind.{common_steps}
use Rattle.word_gates.proofs.Signs.{concatenated}
use Rattle.word_gates.proofs.parts.concatenation.Goals as goal

bits-are : (c : goal.In_ok-extend_from_slice) → c.in_ok-bits.bits.items ≡ c.args.b.now
bits-are c = grind (arith, common_steps)

pub returns-clause-value : goal.returns-clause-value
returns-clause-value c = λ v. rw (c.in_ok-extend_from_slice.ensures.items, bits-are c) (concatenated v c.args.a.now c.args.b.now)
