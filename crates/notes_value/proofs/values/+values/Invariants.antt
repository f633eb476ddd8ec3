use Rattle.std.proofs.Common.{◌-◌}
use Rattle.word_spec.specs.Memory as memory
use Rattle.notes_value.specs.Views.{expr_of}
use Rattle.notes_value.proofs.Looped.{IsLeft}
use Rattle.notes_value.proofs.values.+values.Given as goal

abbrev pub invariant-all_true-loop-v : goal.invariant-all_true-loop-v
invariant-all_true-loop-v g l = IsLeft (memory.endian l.big) (expr_of l.expr) (g.V.View.view l.now) (g.V.View.view l.old) l.low l.high l.v

abbrev pub decreases-all_true-loop-v : goal.decreases-all_true-loop-v
decreases-all_true-loop-v g l = l.high - l.v
