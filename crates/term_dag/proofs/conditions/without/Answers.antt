use Rattle.std.proofs.Common.{refl}
use Rattle.term_dag.proofs.Cubes.{without_first, without_second}
use Rattle.term_dag.proofs.conditions.without.Goals as goal

pub returns-then-is_opposite-clause-value : goal.returns-then-is_opposite-clause-value
returns-then-is_opposite-clause-value c =
    without_first _ _ _ c.literal_of-literal.result _ c.args.nodes.now.typed c.requires.side c.literal_of-literal.ensures c.split-cube.ensures
    (c.if-is_opposite.ensures refl)

pub returns-then-is_opposite-2-clause-value : goal.returns-then-is_opposite-2-clause-value
returns-then-is_opposite-2-clause-value c =
    without_second _ _ _ c.literal_of-literal.result _ c.args.nodes.now.typed c.requires.side c.literal_of-literal.ensures c.split-cube.ensures
    (c.if-is_opposite-2.ensures refl)
