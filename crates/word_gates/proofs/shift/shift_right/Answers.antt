use Rattle.std.proofs.Common.{length}
use Rattle.word_gates.proofs.Words.{number_below}
use Rattle.word_gates.proofs.Shifts.{shr_from}
use Rattle.word_gates.proofs.shift.shift_right.Goals as goal

pub returns-clause-value : goal.returns-clause-value
returns-clause-value c = λ v h.
    let z = c.constant-zero.ensures.value v (c.in_ok-word.ensures.made.grows.keeps v h) in
    shr_from _ (length c.args.a.now) _ _ (number_below v c.args.a.now) (rw z at (c.in_ok-word.ensures.value v h))
