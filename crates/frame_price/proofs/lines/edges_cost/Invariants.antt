use Rattle.std.proofs.Common.{take}
use Rattle.std.specs.Prelude.{map}
use Rattle.std.specs.List.{flat_map}
use Rattle.frame_laws.specs.FramePrices.{line_of}
use Rattle.question_form.specs.FrameViews.{edge_of}
use Rattle.unroller.specs.LineCosts.{AreLineCosts}
use Rattle.frame_price.proofs.lines.edges_cost.Given as goal

abbrev pub invariant-loop-edge : goal.invariant-loop-edge
invariant-loop-edge l = AreLineCosts l.total (flat_map line_of (map (edge_of l.u) (take l.edge-index l.edges)))
