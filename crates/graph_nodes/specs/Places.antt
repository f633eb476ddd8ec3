-- The places of nodes by their addresses.
use Rattle.std.specs.Prelude.{ℕ, ◌≡◌, ◌<◌, List, map, length, slice_index}
use Rattle.graph_nodes.specs.declared.nodes.Node.{Node}

-- the addresses of nodes
abbrev pub ats : List Node → List ℕ
ats nodes = map (λ n. n.at) nodes

-- each address is above those before it
abbrev pub AreRising : List Node → Type 0
AreRising nodes = (i j : ℕ) → i < j → j < length nodes → slice_index (ats nodes) i < slice_index (ats nodes) j

-- the node at a place has the address
pub record IsPlace (nodes : List Node) (a i : ℕ) : Type 0 where
  pub within : i < length nodes
  pub is : slice_index (ats nodes) i ≡ a
