use Rattle.std.proofs.Common.{arith}
use Rattle.term_dag.proofs.Ranges.{word_fits}
use Rattle.term_dag.proofs.Shapes.{not_side}
use Rattle.term_dag.proofs.WordFolds.{same_fold}
use Rattle.term_dag.proofs.WordLaws.{select_turned}
use Rattle.term_dag.proofs.selections.select.Goals as goal

pub positive-requires-clause-condition : goal.positive-requires-clause-condition
positive-requires-clause-condition c = (not_side _ _ _ _ _ c.args.nodes.now.typed c.requires.condition c.in-Not.ensures).0

pub returns-in-Not : goal.returns-in-Not
returns-in-Not c =
    let n = not_side _ _ _ _ _ c.args.nodes.now.typed c.requires.condition c.in-Not.ensures in
    same_fold _ c.args.width _ _ c.args.width c.args.width _
    (λ x i. select_turned _ _ _ _ (word_fits x _ 1 _ i c.args.nodes.now.typed n.0) (n.1 x)) (omega arith) c.positive.ensures
