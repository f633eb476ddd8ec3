use Rattle.bil_types.proofs.ListFaults.{IsChecked}
use Rattle.bil_types.proofs.statements.+check.Given as goal

abbrev pub invariant-check_at-loop-stmt : goal.invariant-check_at-loop-stmt
invariant-check_at-loop-stmt l = IsChecked l.list l.at l.stmt-index l.next
