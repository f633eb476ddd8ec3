use Rattle.std.proofs.Common.{take}
use Rattle.bil_ast.specs.Views.{statements}
use Rattle.bil_terms.specs.Runs.{IsLed}
use Rattle.bil_terms.proofs.lists.+running.Given as goal

abbrev pub invariant-run_statements-loop-stmt : goal.invariant-run_statements-loop-stmt
invariant-run_statements-loop-stmt l = record {
  led : IsLed l.fn.dag l.dag l.fn.place l.fn.run l.run l.fn.stored.items l.stored.items (statements (take l.stmt-index l.fn.list));
}
