use Rattle.std.proofs.Common.{◌≡◌, ◌++◌, map, drop}
use Rattle.notes_value.specs.NoteViews.{assert_of}
use Rattle.rank_notes.proofs.copies.copy_asserts.Given as goal

abbrev pub invariant-loop-line : goal.invariant-loop-line
invariant-loop-line l = map assert_of (l.copies.items ++ drop l.line-index l.asserts) ≡ map assert_of l.asserts
