use Rattle.std.proofs.Common.{ap, sym, ◌∙◌}
use Rattle.bilv_spec.specs.Notes.{And, Binary}
use Rattle.notes_value.specs.declared.expressions.Expr.{Expr}
use Rattle.notes_value.specs.declared.expressions.Operator.{Operator}
use Rattle.notes_value.specs.Views.{expr_of, op_of}
use Rattle.weakest_pre.proofs.Said.{noted_both, noted_one}
use Rattle.weakest_pre.proofs.facts.+note.Goals as goal

pub returns-in-And : goal.returns-in-And
returns-in-And t c =
    let left = c.deref.result.now in
    let right = c.deref-in-And.result.now in
    noted_both _ _ _ _ (expr_of left) (expr_of right)
    (ap expr_of c.in-Binary.is
    ∙ ap (λ (o : Operator). Binary (op_of o) (expr_of c.in-Binary.left.value) (expr_of c.in-Binary.right.value)) c.in-And.is
    ∙ ap (λ (z : Expr). Binary And (expr_of z) (expr_of c.in-Binary.right.value)) (sym c.deref.ensures)
    ∙ ap (λ (z : Expr). Binary And (expr_of left) (expr_of z)) (sym c.deref-in-And.ensures))
    c.note.ensures c.note-in-And.ensures

pub returns-in-Some : goal.returns-in-Some
returns-in-Some t c =
    let op = op_of c.in-Binary.op in
    let left = c.deref-in-Binary.result.now in
    let right = c.deref-in-Binary-2.result.now in
    noted_one _ _ _ (Binary op (expr_of left) (expr_of right)) c.in-Some.fact
    (ap expr_of c.in-Binary.is ∙ ap (λ (z : Expr). Binary op (expr_of z) (expr_of c.in-Binary.right.value)) (sym c.deref-in-Binary.ensures)
    ∙ ap (λ (z : Expr). Binary op (expr_of left) (expr_of z)) (sym c.deref-in-Binary-2.ensures))
    c.in-Some.ensures c.learn.ensures
