-- The assignments that stay by what contracts read.
use Rattle.std.proofs.Common.{◌≡◌, ◌∙◌, sym, ℕ, ◌<◌, false, List, length, get_or}
use Rattle.std.specs.List.{AllZip}
use Rattle.frame_spec.specs.Frames.{Contract}
use Rattle.graph_nodes.specs.Graphs.{IsSameNode}
use Rattle.graph_nodes.specs.declared.nodes.Node.{Node}
use Rattle.graph_nodes.specs.declared.nodes.Graph.{Graph}
use Rattle.flag_live.specs.Contracted.{IsAsked, LiveStayBy}
use Rattle.flag_live.specs.Keeps.{IsSetOf}
use Rattle.flag_live.specs.Lives.{AreLiveBy}
use Rattle.flag_live.specs.declared.trimmed.Lives.{Lives}
use Rattle.flag_live.proofs.Lives.{stay_live}
use Rattle.flag_live.proofs.Zipped.{joined_zip}

pub live_stay : (contracts : List Contract) (old new : Graph) (live : Lives) → AllZip IsSameNode old.nodes.items new.nodes.items →
    ((k : ℕ) (d : Node) → k < length new.nodes.items → IsSetOf (get_or new.nodes.items k d).keeps (get_or live.negative.items k false)
    (get_or live.zero.items k false) (get_or live.carry.items k false) (get_or live.overflow.items k false)) →
    AreLiveBy contracts old live → LiveStayBy contracts old new
live_stay contracts old new live same kept lives = record {
  asked = lives.asked;
  is = lives.is;
  live =
      stay_live lives.asked new.nodes.items live
      (joined_zip (IsAsked contracts) IsSameNode (λ (o n : Node). n.at ≡ o.at) (λ o x y a s. s.at ∙ sym a.same.at) old.nodes.items
      lives.asked.nodes.items new.nodes.items lives.is.nodes same) kept lives.are;
}
