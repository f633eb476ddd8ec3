use Rattle.std.proofs.Common.{refl, ap, sym, ◌∙◌}
use Rattle.machine_spec.specs.Bil.{Or}
use Rattle.term_spec.specs.Terms.{BinaryNode}
use Rattle.bil_ast.specs.Views.{binary_of}
use Rattle.term_dag.proofs.Cubes.{within_both, within_first, within_second}
use Rattle.term_dag.proofs.Shapes.{binary_sides}
use Rattle.term_dag.proofs.conditions.within.Goals as goal

pub cube_of-either-requires-clause-left : goal.cube_of-either-requires-clause-left
cube_of-either-requires-clause-left c =
    let a = c.in-Binary-Or-default-default-default in
    let e = ap (λ o. BinaryNode (binary_of o) a.width a.left.0 a.right.0) (sym a.op-is) ∙ a.ensures in
    (binary_sides _ _ _ Or _ _ _ c.args.nodes.now.typed c.requires.place e refl).0

pub cube_of-either-requires-clause-right : goal.cube_of-either-requires-clause-right
cube_of-either-requires-clause-right c =
    let a = c.in-Binary-Or-default-default-default in
    let e = ap (λ o. BinaryNode (binary_of o) a.width a.left.0 a.right.0) (sym a.op-is) ∙ a.ensures in
    (binary_sides _ _ _ Or _ _ _ c.args.nodes.now.typed c.requires.place e refl).1

pub returns-then-has-clause-value : goal.returns-then-has-clause-value
returns-then-has-clause-value c =
    let a = c.in-Binary-Or-default-default-default in
    let e = ap (λ o. BinaryNode (binary_of o) a.width a.left.0 a.right.0) (sym a.op-is) ∙ a.ensures in
    let k = c.cube_of-either.ensures in
    within_both _ _ _ _ _ _ c.literal_of-literal.result c.cube_of-either.result c.args.nodes.now.typed c.requires.side c.requires.place e c.literal_of-literal.ensures
    k.pair (ap (λ t. t.0) k.left) (ap (λ t. t.0) k.right) (c.if-has.ensures refl)

pub returns-then-is_opposite-clause-value : goal.returns-then-is_opposite-clause-value
returns-then-is_opposite-clause-value c =
    let a = c.in-Binary-Or-default-default-default in
    let e = ap (λ o. BinaryNode (binary_of o) a.width a.left.0 a.right.0) (sym a.op-is) ∙ a.ensures in
    let k = c.cube_of-either.ensures in
    within_second _ _ _ _ _ _ c.literal_of-literal.result c.cube_of-either.result c.args.nodes.now.typed c.requires.side c.requires.place e
    c.literal_of-literal.ensures k.pair (ap (λ t. t.0) k.left) (ap (λ t. t.0) k.right) (c.if-is_opposite.ensures refl)

pub returns-then-is_opposite-2-clause-value : goal.returns-then-is_opposite-2-clause-value
returns-then-is_opposite-2-clause-value c =
    let a = c.in-Binary-Or-default-default-default in
    let e = ap (λ o. BinaryNode (binary_of o) a.width a.left.0 a.right.0) (sym a.op-is) ∙ a.ensures in
    let k = c.cube_of-either.ensures in
    within_first _ _ _ _ _ _ c.literal_of-literal.result c.cube_of-either.result c.args.nodes.now.typed c.requires.side c.requires.place e
    c.literal_of-literal.ensures k.pair (ap (λ t. t.0) k.left) (ap (λ t. t.0) k.right) (c.if-is_opposite-2.ensures refl)
