use Rattle.std.proofs.Common.{◌≡◌, ◌+◌, ◌-◌, take, drop, arith}
use Rattle.std.proofs.lemmas.Grind.{common_steps}
use Rattle.word_gates.proofs.Signs.{extracted}
use Rattle.word_gates.proofs.parts.extract.Goals as goal

bits-are : (c : goal.In_ok-bits) → c.in_ok-bits.bits.items ≡ take (c.args.hi + 1 - c.args.lo) (drop c.args.lo c.args.a.now)
bits-are c = grind (arith, common_steps)

pub returns-clause-value : goal.returns-clause-value
returns-clause-value c = λ v. rw (bits-are c) (extracted v c.args.a.now c.args.hi c.args.lo c.requires.order c.requires.within)
