use Rattle.std.proofs.Common.{refl, ap, sym, ◌∙◌}
use Rattle.machine_spec.specs.Bil.{And}
use Rattle.term_spec.specs.Terms.{BinaryNode}
use Rattle.bil_ast.specs.Views.{binary_of}
use Rattle.term_dag.proofs.Cubes.{cube_of_and, cube_of_one}
use Rattle.term_dag.proofs.Shapes.{binary_sides}
use Rattle.term_dag.proofs.conditions.split.Goals as goal

pub cube_of-requires-clause-left : goal.cube_of-requires-clause-left
cube_of-requires-clause-left c =
    let a = c.in-Binary-And-default-default-default in
    let e = ap (λ o. BinaryNode (binary_of o) a.width a.left.0 a.right.0) (sym a.op-is) ∙ a.ensures in
    (binary_sides _ _ _ And _ _ _ c.args.nodes.now.typed c.requires.place e refl).0

pub cube_of-requires-clause-right : goal.cube_of-requires-clause-right
cube_of-requires-clause-right c =
    let a = c.in-Binary-And-default-default-default in
    let e = ap (λ o. BinaryNode (binary_of o) a.width a.left.0 a.right.0) (sym a.op-is) ∙ a.ensures in
    (binary_sides _ _ _ And _ _ _ c.args.nodes.now.typed c.requires.place e refl).1

pub returns-in-Binary-And-default-default-default : goal.returns-in-Binary-And-default-default-default
returns-in-Binary-And-default-default-default c =
    let a = c.in-Binary-And-default-default-default in
    let e = ap (λ o. BinaryNode (binary_of o) a.width a.left.0 a.right.0) (sym a.op-is) ∙ a.ensures in
    let k = c.cube_of.ensures in
    cube_of_and _ _ _ _ _ _ c.args.nodes.now.typed c.requires.place e k.pair (ap (λ t. t.0) k.left) (ap (λ t. t.0) k.right)

pub returns-in_default : goal.returns-in_default
returns-in_default c =
    let k = c.cube_of-in_default.ensures in
    cube_of_one _ _ _ k.pair (ap (λ t. t.0) k.left) (ap (λ t. t.0) k.right)
