use Rattle.std.proofs.Common.{◌≡◌, ◌++◌, string_bytes}
use Rattle.start_value.specs.Starts.{layout_of}
use Rattle.smtlib_print.specs.Scripted.{givens_of}
use Rattle.smtlib_print.proofs.GiftTexts.{steps_left}
use Rattle.smtlib_print.proofs.gifts.declare_steps.Given as goal

abbrev pub invariant-loop-place : goal.invariant-loop-place
invariant-loop-place l =
    let left = steps_left (layout_of l.unrolled.form) l.numbers (givens_of l.unrolled) in
    string_bytes l.out ++ left l.place ≡ string_bytes l.fn.out ++ left 0
