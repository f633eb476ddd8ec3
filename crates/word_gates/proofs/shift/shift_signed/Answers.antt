use Rattle.std.proofs.Common.{length, refl}
use Rattle.word_gates.proofs.Words.{number_below}
use Rattle.word_gates.proofs.Shifts.{sar_from}
use Rattle.word_gates.proofs.Signs.{sign_bit}
use Rattle.word_gates.proofs.shift.shift_signed.Goals as goal

pub returns-clause-value : goal.returns-clause-value
returns-clause-value c = λ v h.
    let n = length c.args.a.now in
    let b = number_below v c.in_ok-word.word.items in
    sar_from _ n _ _ _ (number_below v c.args.a.now) (rw c.in_ok-word.ensures.made.len at b) (sign_bit v c.args.a.now n c.requires.some refl)
    (c.in_ok-word.ensures.value v h)
