use Rattle.std.proofs.Common.{refl, ap, sym, ◌∙◌}
use Rattle.machine_spec.specs.Bil.{Plus}
use Rattle.term_spec.specs.Terms.{BinaryNode}
use Rattle.bil_ast.specs.Views.{binary_of}
use Rattle.term_dag.proofs.Shapes.{binary_sides, own_sum, sum_of}
use Rattle.term_dag.proofs.operators.parts.Goals as goal

pub constant-requires : goal.constant-requires
constant-requires c =
    let a = c.in-Binary-Plus-default-default-default in
    let e = ap (λ o. BinaryNode (binary_of o) a.width a.left.0 a.right.0) (sym a.op-is) ∙ a.ensures in
    record { within = (binary_sides _ _ _ Plus _ _ _ c.args.nodes.now.typed c.requires.place e refl).1.0 }

pub returns-in-Some : goal.returns-in-Some
returns-in-Some c =
    let a = c.in-Binary-Plus-default-default-default in
    let e = ap (λ o. BinaryNode (binary_of o) a.width a.left.0 a.right.0) (sym a.op-is) ∙ a.ensures in
    sum_of _ _ _ _ _ _ _ c.args.nodes.now.typed c.requires.place e c.in-Some.ensures

pub returns-in_default-constant : goal.returns-in_default-constant
returns-in_default-constant c = own_sum _ _ _ c.args.nodes.now.typed c.requires.place

pub returns : goal.returns
returns c = own_sum _ _ _ c.args.nodes.now.typed c.requires.place

pub returns-2 : goal.returns-2
returns-2 c = own_sum _ _ _ c.args.nodes.now.typed c.requires.place
