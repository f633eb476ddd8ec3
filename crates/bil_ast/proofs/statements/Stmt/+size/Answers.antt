use Rattle.std.proofs.Common.{arith}
use Rattle.bil_ast.proofs.Blocks.{size_if, size_while}
use Rattle.bil_ast.proofs.Lists.{size_end, size_next}
use Rattle.bil_ast.proofs.statements.Stmt.+size.Goals as goal

pub size-returns-in-While : goal.size-returns-in-While
size-returns-in-While t c =
    rw (size_while c.args.self.now c.in-While.condition c.in-While.body c.deref.result.now c.in-While.is c.deref.ensures.value)
    (omega (arith, c.size-in-While.ensures, c.saturating_add-in-While.ensures, c.list_size.ensures, c.saturating_add-in-While-2.ensures))

pub size-returns-in-If : goal.size-returns-in-If
size-returns-in-If t c =
    rw (size_if c.args.self.now c.in-If.condition c.in-If.when_true c.in-If.when_false c.deref-in-If.result.now c.deref-in-If-2.result.now c.in-If.is
    c.deref-in-If.ensures.value c.deref-in-If-2.ensures.value)
    (omega (
      arith,
      c.size-in-If.ensures,
      c.saturating_add-in-If.ensures,
      c.list_size-in-If.ensures,
      c.list_size-in-If-2.ensures,
      c.saturating_add-blocks.ensures,
      c.saturating_add-in-If-2.ensures,
    ))

pub list_size-loop-stmt-preserved : goal.list_size-loop-stmt-preserved
list_size-loop-stmt-preserved t c =
    size_next c.args.list.now c.loop-stmt.stmt-index c.stmt-item.result c.size.result c.loop-stmt.total c.saturating_add-total.result _
    c.loop-stmt-test.true c.stmt-item.is c.size.ensures c.saturating_add-total.ensures c.loop-stmt.invariant.1

pub list_size-returns : goal.list_size-returns
list_size-returns t c =
    size_end c.args.list.now c.loop-stmt.stmt-index c.loop-stmt.total _ c.loop-stmt-test.false c.loop-stmt.invariant.0 c.loop-stmt.invariant.1
