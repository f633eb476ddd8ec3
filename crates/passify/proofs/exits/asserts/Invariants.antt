use Rattle.std.proofs.Common.{drop}
use Rattle.passify.specs.Situations.{ChecksTried, checks_of}
use Rattle.passify.proofs.exits.asserts.Given as goal

abbrev pub invariant-loop-i : goal.invariant-loop-i
invariant-loop-i l =
    ChecksTried l.fn.dag l.dag l.fn.sweep l.sweep l.fn.rest.0 l.left.0 l.unrolled.big l.now (checks_of l.unrolled l.skips l.index)
    (checks_of l.unrolled l.skips (drop l.i l.index))
