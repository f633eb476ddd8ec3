use Rattle.std.proofs.Common.{take}
use Rattle.std.specs.Prelude.{map}
use Rattle.std.specs.List.{flat_map}
use Rattle.frame_spec.specs.FramePoints.{says_of}
use Rattle.question_form.specs.FrameViews.{root_of}
use Rattle.unroller.specs.LineCosts.{AreLineCosts}
use Rattle.frame_price.proofs.lines.roots_cost.Given as goal

abbrev pub invariant-loop-root : goal.invariant-loop-root
invariant-loop-root l = AreLineCosts l.total (flat_map (λ x. says_of x.assumes) (map (root_of l.u) (take l.root-index l.roots)))
