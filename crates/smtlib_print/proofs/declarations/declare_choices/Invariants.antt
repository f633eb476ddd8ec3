use Rattle.std.proofs.Common.{◌≡◌, ◌++◌, string_bytes}
use Rattle.smtlib_print.specs.Scripted.{draws_of}
use Rattle.smtlib_print.proofs.Choices.{unchosen}
use Rattle.smtlib_print.proofs.declarations.declare_choices.Given as goal

abbrev pub invariant-loop-place : goal.invariant-loop-place
invariant-loop-place l =
    string_bytes l.out ++ unchosen l.numbers (draws_of l.unrolled) l.place ≡ string_bytes l.fn.out ++ unchosen l.numbers (draws_of l.unrolled) 0
