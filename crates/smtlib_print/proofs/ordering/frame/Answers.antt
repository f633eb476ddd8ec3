use Rattle.std.proofs.Common.{◌∙◌, ◌-◌, ap, arith}
use Rattle.program_points.specs.Tables.{stack_at}
use Rattle.program_points.proofs.Stacked.{stack_none}
use Rattle.smtlib_print.proofs.StackTables.{framed, loose, stack_past}
use Rattle.smtlib_print.proofs.ordering.frame.Goals as goal

pub returns-then-stack-eq0 : goal.returns-then-stack-eq0
returns-then-stack-eq0 c = ap (stack_at c.args.frames.now) c.if-stack-eq0.true ∙ stack_none c.args.frames.now

pub returns-then-stack-frames : goal.returns-then-stack-frames
returns-then-stack-frames c = stack_past c.args.frames.now c.args.stack (omega (arith, c.if-stack-frames.true))

pub returns-then-found-stack : goal.returns-then-found-stack
returns-then-found-stack c =
    (c.if-found-stack.true, framed c.args.frames.now c.args.stack (c.args.stack - 1) _ (omega arith) (omega arith) c.if-found-stack.true)

pub returns : goal.returns
returns c = (omega arith, loose c.args.frames.now c.args.stack (c.args.stack - 1) _ (omega arith) (omega arith) (omega (arith, c.if-found-stack.false)))
