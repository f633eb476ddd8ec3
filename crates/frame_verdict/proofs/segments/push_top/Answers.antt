use Rattle.frame_verdict.proofs.StackTops.{beyond, on_below, on_none}
use Rattle.frame_verdict.proofs.segments.push_top.Goals as goal

pub returns-then-number-frames-clause-stack : goal.returns-then-number-frames-clause-stack
returns-then-number-frames-clause-stack c = beyond c.args.frames.now c.args.number c.args.found.now.items c.if-number-frames.true

pub returns-then-frame-number-clause-stack : goal.returns-then-frame-number-clause-stack
returns-then-frame-number-clause-stack c =
    on_below c.args.frames.now c.args.number c.args.found.now.items c.push.new.self.items c.requires c.if-number-frames.false c.in_ok-push.ensures.items
    c.if-frame-number.true

pub returns-clause-stack : goal.returns-clause-stack
returns-clause-stack c =
    on_none c.args.frames.now c.args.number c.args.found.now.items c.push.new.self.items c.requires c.if-number-frames.false c.in_ok-push.ensures.items
    c.if-frame-number.false
