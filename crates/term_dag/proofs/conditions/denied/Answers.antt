use Rattle.std.proofs.Common.{refl}
use Rattle.term_dag.proofs.Cubes.{denied_first, denied_second}
use Rattle.term_dag.proofs.Shapes.{not_side}
use Rattle.term_dag.proofs.conditions.denied.Goals as goal

pub split-cube-requires : goal.split-cube-requires
split-cube-requires c = record {
  place = (not_side _ _ _ _ _ c.args.nodes.now.typed c.requires.place c.in-Not.ensures).0;
}

pub returns-then-is_same-clause-value : goal.returns-then-is_same-clause-value
returns-then-is_same-clause-value c =
    denied_first _ _ _ c.literal_of-literal.result _ c.args.nodes.now.typed c.requires.side c.literal_of-literal.ensures c.split-cube.ensures _ _ c.requires.place
    c.in-Not.ensures (c.if-is_same.ensures refl)

pub returns-then-is_same-2-clause-value : goal.returns-then-is_same-2-clause-value
returns-then-is_same-2-clause-value c =
    denied_second _ _ _ c.literal_of-literal.result _ c.args.nodes.now.typed c.requires.side c.literal_of-literal.ensures c.split-cube.ensures _ _ c.requires.place
    c.in-Not.ensures (c.if-is_same-2.ensures refl)
