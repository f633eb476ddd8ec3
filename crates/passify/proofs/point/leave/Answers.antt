use Rattle.passify.proofs.Quit.{leave_tried, leave_names}
use Rattle.passify.proofs.Lines.{like_on, like_sweep}
use Rattle.passify.proofs.Taken.{can_go_on}
use Rattle.passify.proofs.point.leave.Goals as goal

pub edges-requires-clause-goes : goal.edges-requires-clause-goes
edges-requires-clause-goes c e h =
    can_go_on c.args.unrolled.now c.args.sweep.now c.event-3.new.sweep c.args.gone.now.next.names.now
    (like_on c.args.sweep.now c.event-2.new.sweep c.event-3.new.sweep
    (like_on c.args.sweep.now c.event.new.sweep c.event-2.new.sweep c.in_ok-quiet.ensures.steps.like c.in_ok-kept.ensures.steps.like)
    c.in_ok-aligned.ensures.steps.like) (c.requires.goes e h)

pub edges-requires-clause-next : goal.edges-requires-clause-next
edges-requires-clause-next c =
    leave_names c.args.dag.now c.event.new.dag c.event-2.new.dag c.event-3.new.dag c.args.sweep.now c.event.new.sweep c.event-2.new.sweep c.event-3.new.sweep
    c.args.gone.now.next.names.now c.requires.next
    c.in_ok-quiet.ensures.steps c.in_ok-kept.ensures.steps c.in_ok-aligned.ensures.steps

pub returns : goal.returns
returns c =
    let a = c.in_ok-quiet.ensures in
    let b = c.in_ok-kept.ensures in
    let e = c.in_ok-aligned.ensures in
    leave_tried c.args.unrolled.now c.args.dag.now c.event.new.dag c.event-2.new.dag c.event-3.new.dag c.edges.new.dag c.args.sweep.now c.event.new.sweep
    c.event-2.new.sweep c.event-3.new.sweep c.edges.new.sweep c.args.rest.0 c.in_ok-quiet.quiet.0 c.in_ok-kept.kept.0 c.in_ok-aligned.aligned.0
    c.in_ok-left.left.0 c.args.leaves.now.raised.0 c.args.leaves.now.wrote.0 c.args.leaves.now.odd.0 c.args.gone.now.next c.args.gone.now.jumped.0
    c.args.link.0 c.args.list.now c.requires.wrote c.requires.odd c.requires.next c.requires.pc c.requires.jumped c.requires.link
    a.steps a.tries a.narrows b.steps b.tries b.narrows e.steps e.tries e.narrows c.in_ok-left.ensures

pub edges-requires-clause-sweep : goal.edges-requires-clause-sweep
edges-requires-clause-sweep c =
    like_sweep c.args.unrolled.now c.args.sweep.now c.event-3.new.sweep
    (like_on c.args.sweep.now c.event-2.new.sweep c.event-3.new.sweep
    (like_on c.args.sweep.now c.event.new.sweep c.event-2.new.sweep c.in_ok-quiet.ensures.steps.like c.in_ok-kept.ensures.steps.like)
    c.in_ok-aligned.ensures.steps.like) c.requires.sweep
