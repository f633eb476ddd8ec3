use Rattle.std.proofs.Common.{take}
use Rattle.passify.specs.Spans.{IsTaken}
use Rattle.passify.proofs.spans.taken.Given as goal

abbrev pub invariant-loop-i : goal.invariant-loop-i
invariant-loop-i l = IsTaken l.fn.dag l.dag (take l.i l.spans) l.part l.fn.memory.0 l.memory.0
