use Rattle.std.proofs.Common.{◌≡◌, drop, map}
use Rattle.word_spec.specs.Memory.{endian}
use Rattle.bilv_spec.specs.Run as meaning
use Rattle.frame_spec.specs.Frames.{invariants_of}
use Rattle.notes_value.specs.NoteViews.{assert_of}
use Rattle.table_run.specs.FrameEnds.{frame_of}
use Rattle.table_run.proofs.lines.false_invariant.Given as goal

abbrev pub invariant-loop-line : goal.invariant-loop-line
invariant-loop-line g l = (p : meaning.Program) →
    meaning.false_assert (endian l.big) (invariants_of (frame_of p l.invariants) (map assert_of l.asserts)) (g.V.View.view l.now) (g.V.View.view l.entry)
    ≡ meaning.false_assert (endian l.big) (invariants_of (frame_of p l.invariants) (map assert_of (drop l.line-index l.asserts)))
    (g.V.View.view l.now) (g.V.View.view l.entry)
