use Rattle.term_dag.proofs.Shapes.{select_side, join_side}
use Rattle.term_dag.proofs.selections.side.Goals as goal

pub returns-else-inner-condition : goal.returns-else-inner-condition
returns-else-inner-condition c = select_side _ _ _ _ _ _ _ _ _ _ c.args.nodes.now.typed c.requires.place c.in-Select.ensures c.if-inner-condition.false
    c.picked.ensures

pub returns-else-inner-condition-2 : goal.returns-else-inner-condition-2
returns-else-inner-condition-2 c = join_side _ _ _ _ _ _ _ _ _ c.args.nodes.now.typed c.requires.place c.in-Join.ensures c.if-inner-condition-2.false
    c.picked-in-Join.ensures
