use Rattle.std.proofs.Common.{ℕ, ◌<◌, length, get_or, take, false}
use Rattle.std.specs.List.{AllZip}
use Rattle.graph_nodes.specs.Graphs.{IsSameNode}
use Rattle.graph_nodes.specs.declared.nodes.Node.{Node}
use Rattle.flag_live.specs.Keeps.{IsSetOf}
use Rattle.flag_live.proofs.trimmed.trim.Given as goal

abbrev pub invariant-loop-i : goal.invariant-loop-i
invariant-loop-i l = record {
  same : AllZip IsSameNode (take l.i l.graph.nodes.items) l.nodes.items;
  kept :
      (k : ℕ) (d : Node) → k < length l.nodes.items
      → IsSetOf (get_or l.nodes.items k d).keeps (get_or l.lives.negative.items k false) (get_or l.lives.zero.items k false)
      (get_or l.lives.carry.items k false) (get_or l.lives.overflow.items k false);
}
