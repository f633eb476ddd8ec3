use Rattle.std.proofs.Common.{◌∙◌}
use Rattle.frame_verdict.proofs.StackTops.{found_all}
use Rattle.frame_verdict.proofs.segments.stack_addresses.Goals as goal

pub returns : goal.returns
returns c =
    c.reverse.ensures.items
    ∙ found_all c.args.frames.now c.args.number c.loop-upper.upper c.loop-upper.found.items c.loop-upper.invariant c.loop-upper-test.false
