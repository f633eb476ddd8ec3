use Rattle.std.proofs.Common.{◌≡◌, arith}
use Rattle.std.proofs.lemmas.Grind.{common_steps}
use Rattle.word_gates.proofs.Signs.{zero_extended}
use Rattle.word_gates.proofs.parts.extension.Goals as goal

bits-are : (c : goal.In_ok-resize) → c.in_ok-bits.bits.items ≡ c.args.a.now
bits-are c = grind (arith, common_steps)

pub returns-clause-value : goal.returns-clause-value
returns-clause-value c = λ v h. rw (c.in_ok-resize.ensures.items, bits-are c)
    (zero_extended v c.args.a.now c.args.width _ _ c.in_ok-bits.ensures.len c.requires.wider (c.constant.ensures.value v h))
