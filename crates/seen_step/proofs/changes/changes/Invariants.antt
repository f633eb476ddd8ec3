use Rattle.std.proofs.Common.{◌≡◌, ◌++◌, map, drop}
use Rattle.seen_step.specs.Views.{change_of, changed}
use Rattle.seen_step.proofs.changes.changes.Given as goal

abbrev pub invariant-loop-i : goal.invariant-loop-i
invariant-loop-i l = map change_of l.out.items ++ changed (drop l.i l.places) (drop l.i l.old) (drop l.i l.new) ≡ changed l.places l.old l.new
