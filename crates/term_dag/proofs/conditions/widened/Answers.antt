use Rattle.std.proofs.Common.{◌∙◌, arith}
use Rattle.std.proofs.lemmas.Nat.{or_comm}
use Rattle.term_spec.specs.Terms.{term_word}
use Rattle.term_dag.specs.Lists.{terms}
use Rattle.term_dag.proofs.WordFolds.{same_fold}
use Rattle.term_dag.proofs.conditions.widened.Goals as goal

pub returns-then-first-left : goal.returns-then-first-left
returns-then-first-left c =
    let ns = terms c.args.nodes.now in
    same_fold ns 1 _ _ 1 1 _
    (λ x i. or_comm (term_word x ns c.without-first.result.0) (term_word x ns c.args.right.0) ∙ c.without-first.ensures.value x i ∙ or_comm
    (term_word x ns c.args.right.0) (term_word x ns c.args.left.0))
    (omega arith) c.pair-then-first-left.ensures
