use Rattle.std.proofs.Common.{◌-◌, ◌≡◌, ◌++◌}
use Rattle.word_spec.specs.Memory as memory
use Rattle.bilv_spec.specs.Notes.{written_out}
use Rattle.model_spec.specs.Reads.{expression_reads}
use Rattle.notes_value.specs.Views.{expr_of}
use Rattle.notes_value.proofs.Looped.{behind}
use Rattle.notes_value.proofs.ReadPlaces.{tried_reads}
use Rattle.notes_value.proofs.places.+places.Given as goal

abbrev pub invariant-add_all_reads-loop-v : goal.invariant-add_all_reads-loop-v
invariant-add_all_reads-loop-v g l =
    l.places.items ++ tried_reads (memory.endian l.big) (expr_of l.expr) (g.V.View.view l.now) (g.V.View.view l.old) (behind l.high l.v)
    ≡ l.fn.places.items
    ++ expression_reads (memory.endian l.big) (written_out l.low l.high (expr_of l.expr)) (g.V.View.view l.now) (g.V.View.view l.old)

abbrev pub decreases-add_all_reads-loop-v : goal.decreases-add_all_reads-loop-v
decreases-add_all_reads-loop-v g l = l.high - l.v
