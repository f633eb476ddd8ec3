use Rattle.smtlib_print.proofs.Inverses.{AreInverseTo}
use Rattle.smtlib_print.proofs.numbering.numbers_in.Given as goal

abbrev pub invariant-loop-number : goal.invariant-loop-number
invariant-loop-number l = AreInverseTo l.order l.number l.numbers.items
