use Rattle.frame_turns.proofs.AnchorCounts.{anchors_count}
use Rattle.frame_turns.proofs.anchors.anchors_count.Goals as goal

pub returns : goal.returns
returns c = anchors_count
