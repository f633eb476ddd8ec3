use Rattle.std.specs.Prelude.{◌^◌, ◌-◌, length}
use Rattle.frame_rounds.proofs.FrameDeciding.{AreAsked}
use Rattle.frame_rounds.proofs.deciding.decide_frame_from.Given as goal

abbrev pub invariant-loop-added : goal.invariant-loop-added
invariant-loop-added l = AreAsked l.passive l.fn.first.items l.added.items

abbrev pub decreases-loop-added : goal.decreases-loop-added
decreases-loop-added l = 2 ^ 32 - length l.added.items
