use Rattle.std.proofs.Common.{◌≡◌, ◌++◌, drop, map}
use Rattle.word_spec.specs.Memory.{endian}
use Rattle.frame_spec.specs.Frames.{written}
use Rattle.notes_value.specs.FrameViews.{writes_of}
use Rattle.table_run.specs.Spans.{bytes_of}
use Rattle.table_run.proofs.spans.writable.Given as goal

abbrev pub invariant-loop-line : goal.invariant-loop-line
invariant-loop-line g l =
    bytes_of l.spans.items ++ written (endian l.big) (map writes_of (drop l.line-index l.writes)) (g.V.View.view l.state)
    ≡ written (endian l.big) (map writes_of l.writes) (g.V.View.view l.state)
