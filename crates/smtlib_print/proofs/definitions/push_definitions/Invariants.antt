use Rattle.std.proofs.Common.{◌≡◌, ◌++◌, string_bytes}
use Rattle.start_value.specs.Starts.{layout_of}
use Rattle.smtlib_print.proofs.Appended.{left}
use Rattle.smtlib_print.proofs.definitions.push_definitions.Given as goal

abbrev pub invariant-loop-place : goal.invariant-loop-place
invariant-loop-place l =
    string_bytes l.out ++ left (layout_of l.form) l.numbers l.dag l.place ≡ string_bytes l.fn.out ++ left (layout_of l.form) l.numbers l.dag 0
