-- Live flags of a graph, by what its nodes say.
use Rattle.std.specs.Prelude.{ℕ, ◌≡◌, ◌≢◌, ◌<◌, ◌↔◌, true, false, All, Contains}
use Rattle.graph_nodes.specs.Graphs.{has_flag}
use Rattle.graph_nodes.specs.declared.nodes.Letter.TheVariants.{Return}
use Rattle.graph_nodes.specs.declared.nodes.Successor.{Successor}
use Rattle.graph_nodes.specs.declared.nodes.Node.{Node}
use Rattle.graph_nodes.specs.declared.nodes.Graph.{Graph}

-- a node of the graph stands at an address
pub record StandsAt (g : Graph) (a : ℕ) (n : Node) : Type 0 where
  pub among : Contains g.nodes.items n
  pub at : n.at ≡ a

-- an address is one after a call
pub record IsBehindCall (g : Graph) (b : ℕ) : Type 0 where
  pub call : Node
  pub successor : Successor
  pub among : Contains g.nodes.items call
  pub has : Contains call.successors.items successor
  pub returns : successor.letter ≡ Return
  pub to : successor.to ≡ b

-- a static path goes along next addresses, jumps and calls; a return goes to every address after a call
pub data LeadsToIn (g : Graph) (a b : ℕ) : Type 0 where
  along : (n : Node) (s : Successor) → StandsAt g a n → Contains n.successors.items s → s.letter ≢ Return → s.to ≡ b → LeadsToIn g a b
  back : (n : Node) → StandsAt g a n → n.returns ≡ true → IsBehindCall g b → LeadsToIn g a b

mutual
  -- the flag is read from an address on before it is surely assigned
  pub data IsReadIn (g : Graph) (f : ℕ) : ℕ → Type 0 where
    by_assert : {a : ℕ} (n : Node) → StandsAt g a n → has_flag n.asserted f ≡ true → IsReadIn g f a
    by_row : {a : ℕ} (n : Node) → StandsAt g a n → has_flag n.flags.reads f ≡ true → IsReadIn g f a
    later : {a : ℕ} (n : Node) → StandsAt g a n → has_flag n.flags.surely f ≡ false → IsReadAfterIn g f a → IsReadIn g f a

  -- the flag is read after the row at an address, before it is surely assigned again
  pub data IsReadAfterIn (g : Graph) (f : ℕ) : ℕ → Type 0 where
    on_path : {a b : ℕ} → LeadsToIn g a b → IsReadIn g f b → IsReadAfterIn g f a
    at_exit : {a : ℕ} (n : Node) → StandsAt g a n → n.returns ≡ true → has_flag g.ensured f ≡ true → IsReadAfterIn g f a

-- the assignment of a flag at an address is live: some static path reads the flag before it is assigned again
pub record IsLiveIn (g : Graph) (f a : ℕ) : Type 0 where
  pub node : Node
  pub stands : StandsAt g a node
  pub assigns : has_flag node.flags.assigns f ≡ true
  pub read : IsReadAfterIn g f a

-- of a node the assignments stay that are live in a graph, and no others
pub record IsKeptLiveIn (g : Graph) (n : Node) : Type 0 where
  pub small : n.keeps < 16
  pub exact : (f : ℕ) → f < 4 → (has_flag n.keeps f ≡ true) ↔ IsLiveIn g f n.at

abbrev pub LiveStayIn : (old new : Graph) → Type 0
LiveStayIn old new = All (λ n. IsKeptLiveIn old n) new.nodes.items
