use Rattle.std.proofs.Common.{◌≡◌, ◌++◌, map, drop}
use Rattle.notes_value.specs.NoteViews.{targets_of}
use Rattle.rank_notes.proofs.copies.copy_targets.Given as goal

abbrev pub invariant-loop-line : goal.invariant-loop-line
invariant-loop-line l = map targets_of (l.copies.items ++ drop l.line-index l.targets) ≡ map targets_of l.targets
