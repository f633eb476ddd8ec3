use Rattle.std.proofs.Common.{◌≡◌, drop, map}
use Rattle.bilv_spec.specs.Verdict.{fixed}
use Rattle.notes_value.specs.NoteViews.{fixed_of}
use Rattle.table_run.proofs.filling.is_fixed.Given as goal

abbrev pub invariant-loop-range : goal.invariant-loop-range
invariant-loop-range l = fixed (map fixed_of l.ranges) l.a ≡ fixed (map fixed_of (drop l.range-index l.ranges)) l.a
