use Rattle.std.proofs.Common.{eq-eqb, get_or, map}
use Rattle.seen_step.specs.Views.{change_of}
use Rattle.seen_step.proofs.Lists.{skips}
use Rattle.seen_step.proofs.changes.changes.Goals as goal

pub loop-i-preserved-then-old-i : goal.loop-i-preserved-then-old-i
loop-i-preserved-then-old-i c =
    skips c.args.places.now c.args.old.now c.args.new.now c.loop-i.i c.loop-i-test.true c.requires.before c.requires.after
    (map change_of c.loop-i.out.items) _ c.loop-i.invariant (eq-eqb (get_or c.args.old.now c.loop-i.i 0) (get_or c.args.new.now c.loop-i.i 0) c.if-old-i.true)
