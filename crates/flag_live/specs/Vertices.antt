-- The edges along which a read of a flag goes back over a graph, by the places of its nodes; the number of the nodes stands for a read after a return.
use Rattle.std.specs.Prelude.{ℕ, ◌≡◌, ◌≢◌, ◌<◌, ◌⊎◌, Bool, true, false, List, length, slice_index_or, Contains}
use Rattle.graph_nodes.specs.Graphs.{has_flag}
use Rattle.graph_nodes.specs.Places.{IsPlace}
use Rattle.graph_nodes.specs.declared.nodes.Letter.TheVariants.{Return}
use Rattle.graph_nodes.specs.declared.nodes.Successor.{Successor}
use Rattle.graph_nodes.specs.declared.nodes.Node.{Node}
use Rattle.graph_nodes.specs.declared.nodes.Graph.{Graph}

-- a node stands at a place
pub record IsNodeAt (nodes : List Node) (i : ℕ) (n : Node) : Type 0 where
  pub within : i < length nodes
  pub is : slice_index_or nodes i n ≡ n

-- the edge by a successor of the node at a place, which surely assigns the flag or does not
pub data IsEdgeBy (nodes : List Node) (u : ℕ) (assigned : Bool) (s : Successor) (e : ℕ × ℕ) : Type 0 where
  back : s.letter ≢ Return → assigned ≡ false → IsPlace nodes s.to e.0 → e.1 ≡ u → IsEdgeBy nodes u assigned s e
  behind : s.letter ≡ Return → IsPlace nodes s.to e.0 → e.1 ≡ length nodes → IsEdgeBy nodes u assigned s e

-- the edges by the first successors of a node
pub data IsEdgeAmong (nodes : List Node) (u : ℕ) (assigned : Bool) (successors : List Successor) (upto : ℕ) (e : ℕ × ℕ) : Type 0 where
  at : (j : ℕ) → j < upto → ((d : Successor) → IsEdgeBy nodes u assigned (slice_index_or successors j d) e) → IsEdgeAmong nodes u assigned successors upto e

-- the edges by a node at a place
pub data IsEdgeOf (nodes : List Node) (f u : ℕ) (n : Node) (e : ℕ × ℕ) : Type 0 where
  by_successor : IsEdgeAmong nodes u (has_flag n.flags.surely f) n.successors.items (length n.successors.items) e → IsEdgeOf nodes f u n e
  by_exit : has_flag n.flags.surely f ≡ false → n.returns ≡ true → e.0 ≡ length nodes → e.1 ≡ u → IsEdgeOf nodes f u n e

-- the edges by the first nodes
pub data IsEdge (nodes : List Node) (f upto : ℕ) (e : ℕ × ℕ) : Type 0 where
  of : (u : ℕ) (n : Node) → u < upto → IsNodeAt nodes u n → IsEdgeOf nodes f u n e → IsEdge nodes f upto e

-- the node itself reads the flag
abbrev pub IsStartAt : ℕ → Node → Type 0
IsStartAt f n = (has_flag n.asserted f ≡ true) ⊎ (has_flag n.flags.reads f ≡ true)

-- the places of the first nodes that read the flag themselves
pub record IsStartBelow (nodes : List Node) (f upto v : ℕ) : Type 0 where
  pub below : v < upto
  pub reads : (n : Node) → IsNodeAt nodes v n → IsStartAt f n

-- the vertices that read the flag themselves
pub data IsStart (g : Graph) (f v : ℕ) : Type 0 where
  at_node : IsStartBelow g.nodes.items f (length g.nodes.items) v → IsStart g f v
  at_exit : v ≡ length g.nodes.items → has_flag g.ensured f ≡ true → IsStart g f v

-- to a list were added items of a kind, and all of them where a fact holds
pub record Adds (old new : List (ℕ × ℕ)) (Sure : Type 0) (P : ℕ × ℕ → Type 0) : Type 0 where
  pub kept : (e : ℕ × ℕ) → Contains old e → Contains new e
  pub only : (e : ℕ × ℕ) → Contains new e → Contains old e ⊎ P e
  pub all : Sure → (e : ℕ × ℕ) → P e → Contains new e
