use Rattle.std.proofs.Common.{◌≡◌, ◌++◌, string_bytes}
use Rattle.std.specs.Prelude.{codes}
use Rattle.bilv_spec.specs.SmtLib.{Atom}
use Rattle.start_value.specs.Starts.{layout_of}
use Rattle.smtlib_print.specs.Commands.{part_names, word_sort}
use Rattle.smtlib_print.proofs.Appended.{undeclared}
use Rattle.smtlib_print.proofs.declarations.declare_registers.Given as goal

abbrev pub invariant-loop-place : goal.invariant-loop-place
invariant-loop-place l =
    string_bytes l.out ++ undeclared (word_sort (Atom (codes "32"))) (part_names l.part (layout_of l.form).registers) l.place
    ≡ string_bytes l.fn.out ++ undeclared (word_sort (Atom (codes "32"))) (part_names l.part (layout_of l.form).registers) 0
