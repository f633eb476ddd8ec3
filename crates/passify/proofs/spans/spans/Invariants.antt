use Rattle.std.proofs.Common.{map, take}
use Rattle.notes_value.specs.FrameViews.{writes_of}
use Rattle.passify.specs.Spans.{AreSpans}
use Rattle.passify.proofs.spans.spans.Given as goal

abbrev pub invariant-loop-i : goal.invariant-loop-i
invariant-loop-i l = AreSpans l.fn.dag l.dag l.big l.now l.yes.0 (map writes_of (take l.i l.writes)) l.spans.items
