use Rattle.std.specs.Prelude.{Bool, List}
use Rattle.frame_start.specs.declared.parts.Parts.{Parts}
use Rattle.frame_start.specs.Met.{IsMet}
use Rattle.frame_start.specs.Segments.{AreCallsTo}
use Rattle.frame_start.proofs.calls.calls_of_roots.Given as goal

abbrev pub invariant-loop-root : goal.invariant-loop-root
invariant-loop-root l = (values : List Bool) (p : Parts) → IsMet l.c values p l.met → AreCallsTo l.c values p l.root l.calls.items
