use Rattle.std.proofs.Common.{drop}
use Rattle.word_spec.specs.State.{State}
use Rattle.table_run.specs.CalledFrames.{IsFilledBy}
use Rattle.table_run.specs.Spans.{bytes_of}
use Rattle.table_run.proofs.gifts.fill.Given as goal

abbrev pub invariant-loop-span : goal.invariant-loop-span
invariant-loop-span g l = (t : State) → IsFilledBy l.bytes (bytes_of (drop l.span-index l.spans)) (g.M.State.View.view l.state) t →
    IsFilledBy l.bytes (bytes_of l.spans) (g.M.State.View.view l.fn.state) t
