use Rattle.std.proofs.Common.{◌-◌}
use Rattle.word_spec.specs.Memory.{span}
use Rattle.word_spec.specs.State.{State}
use Rattle.table_run.specs.CalledFrames.{IsFilledBy}
use Rattle.table_run.proofs.gifts.fill_span.Given as goal

abbrev pub invariant-loop : goal.invariant-loop
invariant-loop g l = (t : State) →
    IsFilledBy l.fn.bytes (span l.at (l.fn.span.count - l.counter)) (g.M.State.View.view l.state) t →
    IsFilledBy l.fn.bytes (span l.fn.span.first l.fn.span.count) (g.M.State.View.view l.fn.state) t
