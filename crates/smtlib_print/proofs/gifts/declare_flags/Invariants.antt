use Rattle.std.proofs.Common.{◌≡◌, ◌++◌, string_bytes}
use Rattle.std.specs.Prelude.{codes, filter}
use Rattle.bilv_spec.specs.SmtLib.{Atom}
use Rattle.notes_value.specs.FrameViews.{is_in}
use Rattle.word_spec.specs.RowFiles.{from_to}
use Rattle.start_value.specs.Starts.{layout_of}
use Rattle.smtlib_print.specs.Commands.{word_sort}
use Rattle.smtlib_print.proofs.GiftTexts.{flags_left}
use Rattle.smtlib_print.proofs.gifts.declare_flags.Given as goal

abbrev pub invariant-loop-place : goal.invariant-loop-place
invariant-loop-place l =
    let left = flags_left (word_sort (Atom (codes "1"))) l.number (filter (is_in l.set) (from_to 0 4)) (layout_of l.form).flags in
    string_bytes l.out ++ left l.place ≡ string_bytes l.fn.out ++ left 0
