use Rattle.std.proofs.Common.{arith}
use Rattle.passify.proofs.Prepared.{begun_all}
use Rattle.passify.proofs.roots.begin.Goals as goal

pub returns : goal.returns
returns c =
    begun_all c.args.unrolled.now c.loop-root.root c.loop-root.dag c.loop-root.sweep _ _ c.requires.walkable
    (omega (arith, c.loop-root-test.false, c.len-root-end.ensures, c.args.unrolled.now.roots.ok.0)) c.loop-root.invariant
