use Rattle.std.proofs.Common.{ap, sym, ◌∙◌, arith}
use Rattle.term_spec.specs.Terms.{BinaryNode}
use Rattle.bil_ast.specs.Views.{binary_of}
use Rattle.mem_cells.proofs.Splits.{constant_below, split_constant, split_own, split_sum, sum_sides}
use Rattle.mem_cells.proofs.pieces.sum_of.Goals as goal

pub overflow_cast-result : goal.overflow_cast-result
overflow_cast-result c = omega (arith, constant_below _ _ _ c.nodes-typed.ensures.typed c.requires.place c.in-Some.ensures.some)

pub returns-in-Some : goal.returns-in-Some
returns-in-Some c = split_constant _ _ _ _ c.nodes-typed.ensures.typed c.requires.zero c.requires.place c.in-Some.ensures.some

pub constant-requires-in-Binary-Plus-default-default-default : goal.constant-requires-in-Binary-Plus-default-default-default
constant-requires-in-Binary-Plus-default-default-default c =
    let a = c.in-Binary-Plus-default-default-default in
    let e = ap (λ o. BinaryNode (binary_of o) a.width a.left.0 a.right.0) (sym a.op-is) ∙ a.ensures in
    (sum_sides _ _ _ _ _ c.nodes-typed.ensures.typed c.requires.place e).1.0

pub overflow_cast-result-in-Some-constant : goal.overflow_cast-result-in-Some-constant
overflow_cast-result-in-Some-constant c =
    let a = c.in-Binary-Plus-default-default-default in
    let e = ap (λ o. BinaryNode (binary_of o) a.width a.left.0 a.right.0) (sym a.op-is) ∙ a.ensures in
    omega (arith, constant_below _ _ _ c.nodes-typed.ensures.typed (sum_sides _ _ _ _ _ c.nodes-typed.ensures.typed c.requires.place e).1 c.in-Some-constant.ensures.some)

pub returns-in-Some-constant : goal.returns-in-Some-constant
returns-in-Some-constant c =
    let a = c.in-Binary-Plus-default-default-default in
    let e = ap (λ o. BinaryNode (binary_of o) a.width a.left.0 a.right.0) (sym a.op-is) ∙ a.ensures in
    split_sum _ _ _ _ _ _ c.nodes-typed.ensures.typed c.requires.place e c.in-Some-constant.ensures.some

pub returns-in_default-constant : goal.returns-in_default-constant
returns-in_default-constant c = split_own _ _ c.nodes-typed.ensures.typed c.requires.place

pub returns-in_default : goal.returns-in_default
returns-in_default c = split_own _ _ c.nodes-typed.ensures.typed c.requires.place

pub returns-in_default-2 : goal.returns-in_default-2
returns-in_default-2 c = split_own _ _ c.nodes-typed.ensures.typed c.requires.place
