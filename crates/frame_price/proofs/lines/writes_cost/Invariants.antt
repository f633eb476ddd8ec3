use Rattle.std.proofs.Common.{take}
use Rattle.std.specs.Prelude.{map}
use Rattle.notes_value.specs.FrameViews.{writes_of}
use Rattle.unroller.specs.LineCosts.{AreLineCosts}
use Rattle.frame_price.proofs.lines.writes_cost.Given as goal

abbrev pub invariant-loop-line : goal.invariant-loop-line
invariant-loop-line l = AreLineCosts l.total (map (λ w. w.says) (map writes_of (take l.line-index l.writes)))
