use Rattle.std.proofs.Common.{refl, sym, ◌∙◌}
use Rattle.bil_trim.specs.Flags.{kept_in, with_flags}
use Rattle.bil_trim.proofs.Drops.{added_next, added_all, while_left, if_left}
use Rattle.bil_trim.proofs.dropping.+flags.Goals as goal

pub trim-returns-in_ok-with_flags-in-While : goal.trim-returns-in_ok-with_flags-in-While
trim-returns-in_ok-with_flags-in-While t c =
    while_left (kept_in c.args.keeps) c.args.stmt c.repeat.result c.in-While.condition c.in-While.body c.in_ok-with_flags-in-While.field-0
    c.in-While.is c.repeat.ensures c.in_ok-with_flags-in-While.ensures

pub trim-returns-in_ok-with_flags-in-If-2 : goal.trim-returns-in_ok-with_flags-in-If-2
trim-returns-in_ok-with_flags-in-If-2 t c =
    if_left (kept_in c.args.keeps) c.args.stmt c.choose.result c.in-If.condition c.in-If.when_true c.in-If.when_false
    c.in_ok-with_flags-in-If.field-0 c.in_ok-with_flags-in-If-2.field-0 c.in-If.is c.choose.ensures c.in_ok-with_flags-in-If.ensures
    c.in_ok-with_flags-in-If-2.ensures

pub with_flags-loop-stmt-preserved-in-Continue-branch-3 : goal.with_flags-loop-stmt-preserved-in-Continue-branch-3
with_flags-loop-stmt-preserved-in-Continue-branch-3 t c =
    added_next (with_flags (kept_in c.args.keeps)) c.args.list.items c.loop-stmt.stmt-iterator.rest.items c.next.new.self.rest.items
    c.loop-stmt.found.items c.push.new.self.items c.in-Some.stmt c.in-Some-2.stmt c.in_ok-stmt.field-0 c.in-Some.ensures.steps.0 c.in-Some-2.is
    c.in_ok-stmt.ensures c.in_ok-push.ensures.items c.loop-stmt.invariant

pub with_flags-returns : goal.with_flags-returns
with_flags-returns t c =
    added_all (with_flags (kept_in c.args.keeps)) c.args.list.items c.loop-stmt.stmt-iterator.rest.items c.loop-stmt.found.items refl
    (sym c.loop-stmt.stmt-iterator.rest.ok.0 ∙ c.in-None.ensures.steps.0) c.loop-stmt.invariant
