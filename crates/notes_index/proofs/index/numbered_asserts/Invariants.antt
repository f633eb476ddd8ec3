use Rattle.notes_index.specs.Indexed.{assert_places, IsNumbered}
use Rattle.notes_index.proofs.index.numbered_asserts.Given as goal

abbrev pub invariant-loop-i : goal.invariant-loop-i
invariant-loop-i l = IsNumbered (assert_places l.asserts) l.places.items l.i
