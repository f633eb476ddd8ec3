use Rattle.std.proofs.Common.{◌≡◌, ◌++◌, map, drop}
use Rattle.seen_step.proofs.values.bytes.Given as goal

abbrev pub invariant-loop-a : goal.invariant-loop-a
invariant-loop-a g l = l.out.items ++ map (g.V.View.view l.state).mem (drop l.a-index l.places) ≡ map (g.V.View.view l.state).mem l.places
