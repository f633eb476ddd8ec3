use Rattle.std.proofs.Common.{ap, ◌∙◌}
use Rattle.std.specs.Ordering.{ordering_then}
use Rattle.program_points.specs.Tables.{stack_at}
use Rattle.smtlib_print.specs.Orders.{stack_order}
use Rattle.smtlib_print.proofs.Compared.{bare, both_bare, one_stack, then_nothing, tops_meet}
use Rattle.smtlib_print.proofs.ordering.compare_stacks.Goals as goal

pub loop-upper-init : goal.loop-upper-init
loop-upper-init c = record { same = c.requires; order = then_nothing _ }

pub returns-in_default : goal.returns-in_default
returns-in_default c =
    both_bare (stack_at c.args.frames.now c.loop-upper.upper) (stack_at c.args.frames.now c.loop-upper.other) _ _ c.in_default.ensures
    c.loop-upper.invariant.same c.loop-upper.invariant.order

pub returns-in_default-frame : goal.returns-in_default-frame
returns-in_default-frame c =
    both_bare (stack_at c.args.frames.now c.loop-upper.upper) (stack_at c.args.frames.now c.loop-upper.other) _ _
    (bare (stack_at c.args.frames.now c.loop-upper.upper) (stack_at c.args.frames.now c.loop-upper.other) c.in_default-frame.ensures
    c.loop-upper.invariant.same)
    c.loop-upper.invariant.same c.loop-upper.invariant.order

pub loop-upper-smaller : goal.loop-upper-smaller
loop-upper-smaller c = c.in-Some.ensures.0

pub loop-upper-preserved : goal.loop-upper-preserved
loop-upper-preserved c =
    let frames = c.args.frames.now in
    let met = tops_meet (stack_at frames c.loop-upper.upper) (stack_at frames c.loop-upper.other) (stack_at frames c.in-Some.top.below)
    (stack_at frames c.in-Some-frame.against.below) c.in-Some.top.top c.in-Some-frame.against.top c.loop-upper.order _ c.in-Some.ensures.1
    c.in-Some-frame.ensures.1 c.loop-upper.invariant.same c.loop-upper.invariant.order in
    let below = stack_order (stack_at frames c.in-Some.top.below) (stack_at frames c.in-Some-frame.against.below) in
    record { same = met.0; order = ap (λ o. ordering_then below o) (c.then-order.ensures ∙ ap (λ o. ordering_then o c.loop-upper.order) c.cmp.ensures) ∙ met.1 }

pub returns : goal.returns
returns c =
    let frames = c.args.frames.now in
    one_stack (stack_at frames c.loop-upper.upper) (stack_at frames c.loop-upper.other) _ _ (ap (stack_at frames) c.loop-upper-test.false)
    c.loop-upper.invariant.order
