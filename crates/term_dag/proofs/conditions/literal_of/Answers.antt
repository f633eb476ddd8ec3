use Rattle.term_dag.proofs.Shapes.{not_literal}
use Rattle.term_dag.proofs.conditions.literal_of.Goals as goal

pub returns-in-Not : goal.returns-in-Not
returns-in-Not c = not_literal _ _ _ _ c.args.nodes.now.typed c.requires.place c.in-Not.ensures
