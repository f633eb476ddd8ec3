use Rattle.std.proofs.Common.{map, subst}
use Rattle.known_bytes.specs.Runs.{run_of}
use Rattle.asked_bytes.specs.AskedBytes.{AreMore}
use Rattle.asked_bytes.proofs.Adding.{fewer_left}
use Rattle.frame_rounds.proofs.FrameDeciding.{decided, more_asked}
use Rattle.frame_rounds.proofs.deciding.decide_frame_from.Goals as goal

pub returns-in-Answered : goal.returns-in-Answered
returns-in-Answered c =
    decided c.args.passive.now c.args.asked c.in_ok-question.question c.in_ok-question.ensures.of c.args.first.items c.deref.result.now c.args.conflicts
    c.in_ok-answered.field-0 c.in_ok-answered.ensures (record { answered = c.in-Answered.answered; added = c.loop-added.added }) c.in-Answered.is
    c.deref.ensures.value c.loop-added.invariant

pub loop-added-preserved : goal.loop-added-preserved
loop-added-preserved c =
    more_asked c.args.passive.now c.args.first.items c.loop-added.added.items c.deref-in-Broken-2.result.now c.in_ok-added-in-Broken.added.items
    c.loop-added.invariant c.deref-in-Broken-2.ensures.value
    (subst (λ k. AreMore (map run_of k) c.deref-in-Broken-2.result.now c.in_ok-added-in-Broken.added.items) c.deref-in-Broken.ensures.value
    c.in_ok-added-in-Broken.ensures.more)

pub loop-added-smaller : goal.loop-added-smaller
loop-added-smaller c =
    fewer_left (map run_of c.deref-in-Broken.result.now) c.loop-added.added.items c.deref-in-Broken-2.result.now c.in_ok-added-in-Broken.added.items
    c.deref-in-Broken-2.ensures.value c.in_ok-added-in-Broken.ensures.more
