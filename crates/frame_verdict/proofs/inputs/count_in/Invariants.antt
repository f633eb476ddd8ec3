use Rattle.std.proofs.Common.{◌≡◌, ◌≤◌, filter, length}
use Rattle.word_spec.specs.RowFiles.{from_to}
use Rattle.notes_value.specs.FrameViews as sets
use Rattle.frame_verdict.proofs.inputs.count_in.Given as goal

abbrev pub invariant-loop-i : goal.invariant-loop-i
invariant-loop-i l = (l.members ≡ length (filter (sets.is_in l.set) (from_to l.from l.i))) × (l.members ≤ l.i)
