use Rattle.std.proofs.Common.{◌≡◌, ◌++◌, drop, map}
use Rattle.notes_value.specs.NoteViews.{assert_of}
use Rattle.unroller.specs.Heads.{head_places}
use Rattle.unroller.proofs.roots.heads.Given as goal

abbrev pub invariant-loop-line : goal.invariant-loop-line
invariant-loop-line l =
    l.found.items ++ head_places l.invariants (map assert_of (drop l.line-index l.notes.asserts.items)) ≡ head_places l.invariants (map assert_of
    l.notes.asserts.items)
