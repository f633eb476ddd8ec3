use Rattle.bil_ast.proofs.Blocks.{if_copied, while_copied}
use Rattle.bil_ast.proofs.Lists.{copy_next}
use Rattle.bil_ast.specs.Views.{statements}
use Rattle.bil_ast.proofs.statements.Stmt.+copy.Goals as goal

pub copy-returns-in_ok-copy_list-in-While : goal.copy-returns-in_ok-copy_list-in-While
copy-returns-in_ok-copy_list-in-While t c =
    while_copied c.args.self.now c.repeat.result c.in-While.condition c.in_ok-copy-in-While.field-0 c.in-While.body c.in_ok-copy_list-in-While.field-0
    c.deref.result.now c.in-While.is c.deref.ensures.value c.repeat.ensures c.in_ok-copy-in-While.ensures c.in_ok-copy_list-in-While.ensures

pub copy-returns-in_ok-copy_list-in-If-2 : goal.copy-returns-in_ok-copy_list-in-If-2
copy-returns-in_ok-copy_list-in-If-2 t c =
    if_copied c.args.self.now c.choose.result c.in-If.condition c.in_ok-copy-in-If.field-0 c.in-If.when_true c.in-If.when_false
    c.in_ok-copy_list-in-If.field-0 c.in_ok-copy_list-in-If-2.field-0 c.deref-in-If.result.now c.deref-in-If-2.result.now c.in-If.is
    c.deref-in-If.ensures.value c.deref-in-If-2.ensures.value c.choose.ensures c.in_ok-copy-in-If.ensures c.in_ok-copy_list-in-If.ensures
    c.in_ok-copy_list-in-If-2.ensures

pub copy_list-loop-stmt-preserved : goal.copy_list-loop-stmt-preserved
copy_list-loop-stmt-preserved t c =
    copy_next c.args.list.now c.loop-stmt.copies.items c.push.new.self.items c.loop-stmt.stmt-index c.stmt-item.result c.in_ok-copy.field-0
    (statements c.args.list.now) c.loop-stmt-test.true c.stmt-item.is c.in_ok-copy.ensures c.in_ok-push.ensures.items c.loop-stmt.invariant
