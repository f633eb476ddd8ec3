use Rattle.std.proofs.Common.{take}
use Rattle.passify.specs.Planted.{AreAssumed, assumed_lines}
use Rattle.passify.proofs.roots.assumed.Given as goal

abbrev pub invariant-loop-i : goal.invariant-loop-i
invariant-loop-i l = AreAssumed l.fn.dag l.dag l.unrolled.big (assumed_lines l.unrolled (take l.i l.index)) l.now l.entry l.fn.yes.0 l.all.0
