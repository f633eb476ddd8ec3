use Rattle.std.proofs.Common.{◌≡◌, length}
use Rattle.std.specs.Ordering.{ordering_then}
use Rattle.program_points.specs.Tables.{stack_at}
use Rattle.smtlib_print.specs.Orders.{stack_order}
use Rattle.smtlib_print.proofs.ordering.compare_stacks.Given as goal

abbrev pub invariant-loop-upper : goal.invariant-loop-upper
invariant-loop-upper l = record {
  same : length (stack_at l.frames l.upper) ≡ length (stack_at l.frames l.other);
  order : ordering_then (stack_order (stack_at l.frames l.upper) (stack_at l.frames l.other)) l.order
      ≡ stack_order (stack_at l.frames l.fn.left) (stack_at l.frames l.fn.right);
}

abbrev pub decreases-loop-upper : goal.decreases-loop-upper
decreases-loop-upper l = l.upper
