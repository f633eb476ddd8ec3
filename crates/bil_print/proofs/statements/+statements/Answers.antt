use Rattle.std.proofs.Common.{drop, suc, ◌∙◌}
use Rattle.bil_ast.specs.Views.{statements}
use Rattle.bil_print.proofs.Lines.{block_lines, if_lines, on_ok, statement_more, while_lines}
use Rattle.bil_print.proofs.statements.+statements.Goals as goal

pub append_list-loop-stmt-preserved : goal.append_list-loop-stmt-preserved
append_list-loop-stmt-preserved t c = λ depth is.
    statement_more c.args.list.now c.loop-stmt.stmt-index c.stmt-item.result depth _ _ _ c.loop-stmt-test.true c.stmt-item.is
    (c.in_ok-append_statement.ensures depth (statements (drop (suc c.loop-stmt.stmt-index) c.args.list.now)) is) (c.loop-stmt.invariant depth is)

pub append_block-returns : goal.append_block-returns
append_block-returns t c = λ depth is.
    block_lines c.args.block.now depth c.args.blanks.now c.deref.result.now _ _ (c.deref.ensures ∙ c.in_ok-deeper.ensures.ok) is c.in_ok-append_list.ensures

pub append_statement-returns-in_ok-append_block-in-While : goal.append_statement-returns-in_ok-append_block-in-While
append_statement-returns-in_ok-append_block-in-While t c =
    on_ok c.append_line.result _ _ (λ last. λ depth rest is.
    while_lines c.args.stmt.now c.in-While.condition c.in-While.body c.deref.result.now depth rest _ _ _ _ c.in-While.is c.deref.ensures.value
    (c.in_ok-append_opening-in-While.ensures depth is) (c.in_ok-append_block-in-While.ensures depth is) (last depth is)) c.append_line.ensures

pub append_statement-returns-in_ok-append_block-in-If-2 : goal.append_statement-returns-in_ok-append_block-in-If-2
append_statement-returns-in_ok-append_block-in-If-2 t c =
    on_ok c.append_line-in-If-2.result _ _ (λ last. λ depth rest is.
    if_lines c.args.stmt.now c.in-If.condition c.in-If.when_true c.in-If.when_false c.deref-in-If.result.now c.deref-in-If-2.result.now depth rest _ _ _ _ _ _
    c.in-If.is c.deref-in-If.ensures.value c.deref-in-If-2.ensures.value
    (c.in_ok-append_opening-in-If.ensures depth is) (c.in_ok-append_block-in-If.ensures depth is) (c.in_ok-append_line-in-If.ensures depth is)
    (c.in_ok-append_block-in-If-2.ensures depth is) (last depth is)) c.append_line-in-If-2.ensures
