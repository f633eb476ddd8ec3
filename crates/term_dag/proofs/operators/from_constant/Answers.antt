use Rattle.std.proofs.Common.{arith}
use Rattle.term_dag.proofs.Comparisons.{least_of_all}
use Rattle.term_dag.proofs.WordFolds.{same_fold}
use Rattle.term_dag.proofs.operators.from_constant.Goals as goal

pub returns-then-left-eq0 : goal.returns-then-left-eq0
returns-then-left-eq0 c = rw c.in-LessEqual.is (same_fold _ 1 _ _ 0 c.args.width _
    (λ x i. least_of_all _ c.args.left c.if-left-eq0.true) (omega arith) (c.truth.ensures _))
