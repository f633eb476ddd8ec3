use Rattle.std.proofs.Common.{◌-◌, arith}
use Rattle.passify.proofs.Tops.{top_none, top_past, top_some}
use Rattle.passify.proofs.calls.returns_to.Goals as goal

pub returns-then-stack-eq0 : goal.returns-then-stack-eq0
returns-then-stack-eq0 c = top_none c.args.frames.now c.args.stack c.if-stack-eq0.true

pub returns-then-frames-stack : goal.returns-then-frames-stack
returns-then-frames-stack c = top_past c.args.frames.now c.args.stack (omega (arith, c.if-frames-stack.true))

pub returns : goal.returns
returns c =
    top_some c.args.frames.now c.args.stack (c.args.stack - 1) _ (omega (arith, c.if-stack-eq0.false)) (omega (arith, c.if-stack-eq0.false, c.if-frames-stack.false))
