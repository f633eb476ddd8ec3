use Rattle.term_dag.proofs.Joins.{join_turned}
use Rattle.term_dag.proofs.Shapes.{not_side}
use Rattle.term_dag.proofs.selections.join.Goals as goal

pub positive_join-requires-clause-condition : goal.positive_join-requires-clause-condition
positive_join-requires-clause-condition c = (not_side _ _ _ _ _ c.args.nodes.now.typed c.requires.condition c.in-Not.ensures).0

pub returns-in-Not : goal.returns-in-Not
returns-in-Not c =
    let n = not_side _ _ _ _ _ c.args.nodes.now.typed c.requires.condition c.in-Not.ensures in
    join_turned _ _ _ _ c.args.nodes.now.typed c.requires.condition c.requires.when_true c.requires.when_false _ _ n.0 n.1 c.positive_join.ensures
