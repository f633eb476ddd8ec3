use Rattle.notes_index.specs.Indexed.{targets_places, IsNumbered}
use Rattle.notes_index.proofs.index.numbered_targets.Given as goal

abbrev pub invariant-loop-i : goal.invariant-loop-i
invariant-loop-i l = IsNumbered (targets_places l.targets) l.places.items l.i
