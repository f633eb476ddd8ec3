use Rattle.std.proofs.Common.{sym, arith}
use Rattle.table_run.proofs.FrameSteps.{head_found, no_head}
use Rattle.table_run.proofs.cuts.has_invariant.Goals as goal

pub returns-then-is_line : goal.returns-then-is_line
returns-then-is_line c p =
    head_found p c.args.invariants.now c.args.at c.args.asserts.now c.args.index.now c.group-low.result.0 c.group-low.result.1 c.loop-i.i _
    c.index-asserts-index.result (c.group-low.ensures.places _ c.requires.index) (omega arith) (omega arith) (sym c.if-is_line.ensures)

pub returns : goal.returns
returns c p =
    no_head p c.args.invariants.now c.args.at c.args.asserts.now c.args.index.now c.group-low.result.0 c.group-low.result.1
    (c.group-low.ensures.places _ c.requires.index) (λ j d e from upto. c.loop-i.invariant j d e from (omega arith))
