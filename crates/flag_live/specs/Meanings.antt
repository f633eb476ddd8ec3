-- Where a flag is read, by the places of a graph's nodes.
use Rattle.std.specs.Prelude.{ℕ, ◌≡◌, ◌≢◌, ◌<◌, ◌↔◌, Bool, true, List, length, slice_index_or}
use Rattle.graph_nodes.specs.Graphs.{has_flag}
use Rattle.graph_nodes.specs.Places.{AreRising, IsPlace}
use Rattle.graph_nodes.specs.declared.nodes.Letter.TheVariants.{Return}
use Rattle.graph_nodes.specs.declared.nodes.Successor.{Successor}
use Rattle.graph_nodes.specs.declared.nodes.Node.{Node}
use Rattle.graph_nodes.specs.declared.nodes.Graph.{Graph}
use Rattle.flag_live.specs.GraphReads.{IsBehindCall, IsReadIn, IsLiveIn}
use Rattle.flag_live.specs.Reachable.{IsMarked}
use Rattle.flag_live.specs.Vertices.{IsNodeAt}

-- the flag is read after a return: at an exit, or behind a call
pub data IsReadBack (g : Graph) (f : ℕ) : Type 0 where
  ensured : has_flag g.ensured f ≡ true → IsReadBack g f
  behind : (b : ℕ) → IsBehindCall g b → IsReadIn g f b → IsReadBack g f

-- marked are the places of the nodes from which on the flag is read, and the number of the nodes where it is read after a return
pub record AreReads (g : Graph) (f : ℕ) (marked : List Bool) : Type 0 where
  pub at_nodes : (i : ℕ) (n : Node) → IsNodeAt g.nodes.items i n → IsMarked marked i ↔ IsReadIn g f n.at
  pub back : IsMarked marked (length g.nodes.items) ↔ IsReadBack g f

-- a successor that is no return leads to a marked place
pub record LeadsOn (nodes : List Node) (marked : List Bool) (s : Successor) : Type 0 where
  pub place : ℕ
  pub goes : s.letter ≢ Return
  pub is : IsPlace nodes s.to place
  pub marks : IsMarked marked place

-- one of the first successors leads to a marked place
pub record LeadsOnAmong (nodes : List Node) (marked : List Bool) (successors : List Successor) (upto : ℕ) : Type 0 where
  pub index : ℕ
  pub below : index < upto
  pub leads : (d : Successor) → LeadsOn nodes marked (slice_index_or successors index d)

-- the marks say that the flag is read after a node
pub data IsOn (nodes : List Node) (marked : List Bool) (n : Node) : Type 0 where
  on_successor : LeadsOnAmong nodes marked n.successors.items (length n.successors.items) → IsOn nodes marked n
  on_exit : n.returns ≡ true → IsMarked marked (length nodes) → IsOn nodes marked n

-- the node assigns the flag, and the marks say that it is read after
pub record IsLiveNode (nodes : List Node) (marked : List Bool) (f : ℕ) (n : Node) : Type 0 where
  pub assigns : has_flag n.flags.assigns f ≡ true
  pub on : IsOn nodes marked n

-- the first nodes' assignments of the flag, as the marks have them
pub record AreLiveBelow (nodes : List Node) (marked : List Bool) (f upto : ℕ) (live : List Bool) : Type 0 where
  pub count : length live ≡ upto
  pub found : (i : ℕ) (n : Node) → i < upto → IsNodeAt nodes i n → IsMarked live i → IsLiveNode nodes marked f n
  pub only : AreRising nodes → (i : ℕ) (n : Node) → i < upto → IsNodeAt nodes i n → IsLiveNode nodes marked f n → IsMarked live i

-- live are the assignments of the flag by the nodes at the places that are set
pub record AreLive (g : Graph) (f : ℕ) (live : List Bool) : Type 0 where
  pub each : (i : ℕ) (n : Node) → IsNodeAt g.nodes.items i n → IsMarked live i ↔ IsLiveIn g f n.at
