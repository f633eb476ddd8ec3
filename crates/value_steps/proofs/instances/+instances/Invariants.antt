use Rattle.std.proofs.Common.{◌-◌, ◌≡◌}
use Rattle.word_spec.specs.Memory as memory
use Rattle.bilv_spec.specs.Notes.{written_out}
use Rattle.trace_texts_spec.specs.ValueLines.{shown}
use Rattle.notes_value.specs.Views.{expr_of}
use Rattle.notes_value.proofs.Looped.{behind}
use Rattle.value_steps.specs.Pieces.{tried}
use Rattle.value_steps.proofs.instances.+instances.Given as goal

abbrev pub invariant-first_false-loop-v : goal.invariant-first_false-loop-v
invariant-first_false-loop-v g l =
    shown (memory.endian l.big) (g.V.View.view l.now) (g.V.View.view l.old) (written_out l.low l.high (expr_of l.expr))
    ≡ tried (memory.endian l.big) (g.V.View.view l.now) (g.V.View.view l.old) (expr_of l.expr) (behind l.high l.v)

abbrev pub decreases-first_false-loop-v : goal.decreases-first_false-loop-v
decreases-first_false-loop-v g l = l.high - l.v
