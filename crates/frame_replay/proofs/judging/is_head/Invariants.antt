use Rattle.std.proofs.Common.{◌≡◌, drop, map}
use Rattle.std.specs.Prelude.{◌==◌}
use Rattle.std.specs.List.{list_any}
use Rattle.bilv_spec.specs.Run.{Program}
use Rattle.frame_spec.specs.Frames.{invariants_of}
use Rattle.notes_value.specs.NoteViews.{assert_of}
use Rattle.table_run.specs.FrameEnds.{frame_of}
use Rattle.frame_replay.proofs.judging.is_head.Given as goal

abbrev pub invariant-loop-line : goal.invariant-loop-line
invariant-loop-line l = (p : Program) →
    list_any (λ x. x.at == l.at) (invariants_of (frame_of p l.invariants) (map assert_of l.asserts))
    ≡ list_any (λ x. x.at == l.at) (invariants_of (frame_of p l.invariants) (map assert_of (drop l.line-index l.asserts)))
