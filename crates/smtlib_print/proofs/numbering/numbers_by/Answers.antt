use Rattle.std.proofs.Common.{◌∙◌, arith}
use Rattle.smtlib_print.proofs.Placing.{order_count, order_ranks, order_within}
use Rattle.smtlib_print.proofs.numbering.numbers_by.Goals as goal

pub numbers_in-requires-clause-few : goal.numbers_in-requires-clause-few
numbers_in-requires-clause-few c =
    let count = order_count c.args.unrolled.now c.args.steps c.args.roots.now c.in_ok-order.order.items c.sort.new.points.items c.deref-4.result.now
    c.in_ok-order.ensures c.in_ok-sort.ensures.same c.deref-4.ensures.value in
    omega (arith, count, c.if-count-gt-MOST.false, c.len-count.ensures)

pub numbers_in-requires-clause-within : goal.numbers_in-requires-clause-within
numbers_in-requires-clause-within c =
    order_within c.args.unrolled.now c.args.steps c.args.roots.now c.in_ok-order.order.items c.sort.new.points.items c.deref-4.result.now c.in_ok-order.ensures
    c.in_ok-sort.ensures.same c.deref-4.ensures.value

pub returns-clause-count : goal.returns-clause-count
returns-clause-count c =
    c.in_ok-numbers.ensures.count
    ∙ order_count c.args.unrolled.now c.args.steps c.args.roots.now c.in_ok-order.order.items c.sort.new.points.items c.deref-4.result.now c.in_ok-order.ensures
    c.in_ok-sort.ensures.same c.deref-4.ensures.value

pub returns-clause-ranks : goal.returns-clause-ranks
returns-clause-ranks c apart =
    let few = order_count c.args.unrolled.now c.args.steps c.args.roots.now c.in_ok-order.order.items c.sort.new.points.items c.deref-4.result.now
    c.in_ok-order.ensures c.in_ok-sort.ensures.same c.deref-4.ensures.value in
    order_ranks c.args.unrolled.now c.args.steps c.args.roots.now c.in_ok-order.order.items c.sort.new.points.items c.deref-4.result.now c.in_ok-order.ensures
    c.in_ok-sort.ensures.same c.deref-4.ensures.value c.deref-2.result.now c.in_ok-numbers.numbers.items apart c.deref-2.ensures.value
    c.in_ok-sort.ensures.sorted c.in_ok-numbers.ensures.inverse c.in_ok-numbers.ensures.count
    (omega (arith, few, c.if-count-gt-MOST.false, c.len-count.ensures))
