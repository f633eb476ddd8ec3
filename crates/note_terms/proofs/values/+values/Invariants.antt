use Rattle.notes_value.specs.Views.{expr_of}
use Rattle.note_terms.proofs.Valued.{IsJoinedTo}
use Rattle.note_terms.proofs.values.+values.Given as goal

abbrev pub invariant-all_true-loop-v : goal.invariant-all_true-loop-v
invariant-all_true-loop-v l = IsJoinedTo l.fn.dag l.dag l.fn.big (expr_of l.says) l.now l.entry l.low l.high l.v l.all.0

abbrev pub decreases-all_true-loop-v : goal.decreases-all_true-loop-v
decreases-all_true-loop-v l = l.v
