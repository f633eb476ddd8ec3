use Rattle.std.proofs.Common.{refl}
use Rattle.byte_mem.specs.Views.{endian_of}
use Rattle.bil_trim.specs.Literals.{with_literal}
use Rattle.bil_trim.proofs.Copies.{made_none, made_next, made_all, while_made, if_made}
use Rattle.bil_trim.proofs.constants.+lists.Goals as goal

pub put_stmt-returns-in_ok-with_literal-in-While : goal.put_stmt-returns-in_ok-with_literal-in-While
put_stmt-returns-in_ok-with_literal-in-While t c =
    while_made (endian_of c.args.literal.order) c.args.literal.at c.args.literal.value c.args.stmt.now c.repeat.result c.in-While.condition
    c.in_ok-put-in-While.field-0 c.in-While.body c.in_ok-with_literal-in-While.field-0 c.deref.result.now c.in-While.is c.deref.ensures.value
    c.repeat.ensures c.in_ok-put-in-While.ensures c.in_ok-with_literal-in-While.ensures

pub put_stmt-returns-in_ok-with_literal-in-If-2 : goal.put_stmt-returns-in_ok-with_literal-in-If-2
put_stmt-returns-in_ok-with_literal-in-If-2 t c =
    if_made (endian_of c.args.literal.order) c.args.literal.at c.args.literal.value c.args.stmt.now c.choose.result c.in-If.condition
    c.in_ok-put-in-If.field-0 c.in-If.when_true c.in-If.when_false c.in_ok-with_literal-in-If.field-0 c.in_ok-with_literal-in-If-2.field-0
    c.deref-in-If.result.now c.deref-in-If-2.result.now c.in-If.is c.deref-in-If.ensures.value c.deref-in-If-2.ensures.value c.choose.ensures
    c.in_ok-put-in-If.ensures c.in_ok-with_literal-in-If.ensures c.in_ok-with_literal-in-If-2.ensures

pub with_literal-loop-stmt-init : goal.with_literal-loop-stmt-init
with_literal-loop-stmt-init t c =
    made_none (with_literal (endian_of c.args.literal.order) c.args.literal.at c.args.literal.value) c.args.list.now c.new-found.result.items
    c.new-found.ensures.items

pub with_literal-loop-stmt-preserved : goal.with_literal-loop-stmt-preserved
with_literal-loop-stmt-preserved t c =
    made_next (with_literal (endian_of c.args.literal.order) c.args.literal.at c.args.literal.value) c.args.list.now c.loop-stmt.found.items
    c.push.new.self.items c.loop-stmt.stmt-index c.stmt-item.result c.in_ok-put_stmt.field-0 c.loop-stmt-test.true c.stmt-item.is
    c.in_ok-put_stmt.ensures c.in_ok-push.ensures.items c.loop-stmt.invariant

pub with_literal-returns : goal.with_literal-returns
with_literal-returns t c =
    made_all (with_literal (endian_of c.args.literal.order) c.args.literal.at c.args.literal.value) c.args.list.now c.loop-stmt.found.items
    c.loop-stmt.stmt-index refl c.loop-stmt-test.false c.loop-stmt.invariant
