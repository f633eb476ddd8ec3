-- Addresses that are found, and their nodes.
use Rattle.std.specs.Prelude.{ℕ, ◌≡◌, ◌<◌, ◌^◌, true, ◌||◌, ◌↔◌, List, ◌++◌, map, nat_eq, All, Contains}
use Rattle.std.specs.List.{list_any, IsDistinct}
use Rattle.std.specs.Ordering.{nat_cmp}
use Rattle.std.specs.BTreeSet.{BTreeSet, contains}
use Rattle.bilv_spec.specs.Run.{Program}
use Rattle.bilv_spec.specs.Graph.{Successor, successors_at}
use Rattle.bilv_spec.specs.LiveFlags.{ensures_flag}
use Rattle.graph_nodes.specs.Graphs.{addresses_of, IsFlagSet, IsNode}
use Rattle.graph_nodes.specs.Places.{AreRising}
use Rattle.graph_nodes.specs.declared.nodes.Node.{Node}
use Rattle.graph_nodes.specs.declared.nodes.Graph.{Graph}

-- the addresses are words, each once, and the set has them
pub record IsSeen (found : List ℕ) (seen : BTreeSet ℕ) : Type 0 where
  pub has : (a : ℕ) → contains nat_cmp seen a ≡ list_any (nat_eq a) found
  pub distinct : IsDistinct nat_eq found
  pub words : (a : ℕ) → list_any (nat_eq a) found ≡ true → a < 2 ^ 32

-- the list has each element of two others, and no other, and begins with the first of them
pub record IsMore (old more new : List ℕ) : Type 0 where
  pub rest : List ℕ
  pub begins : new ≡ old ++ rest
  pub any : (a : ℕ) → list_any (nat_eq a) new ≡ (list_any (nat_eq a) old || list_any (nat_eq a) more)

-- the addresses to which successors that are listed lead from a program's entry, or from another root
pub data IsAddressFrom (p : Program) (others : List ℕ) : ℕ → Type 0 where
  entry : IsAddressFrom p others p.entry
  other : {a : ℕ} → Contains others a → IsAddressFrom p others a
  listed : {a : ℕ} {x : Successor} → IsAddressFrom p others a → Contains (successors_at p a) x → IsAddressFrom p others x.to

-- the value is the program's graph from its entry and other roots, whatever assignments stay: it has each address once, rising
pub record IsGraphFrom (p : Program) (others : List ℕ) (g : Graph) : Type 0 where
  pub narrow : g.narrow ≡ p.machine.narrow
  pub all : (a : ℕ) → Contains (addresses_of g) a ↔ IsAddressFrom p others a
  pub rising : AreRising g.nodes.items
  pub nodes : All (λ n. IsNode p n) g.nodes.items
  pub ensured : IsFlagSet g.ensured (λ f. ensures_flag p f)

-- the nodes of a program: of each address to which its roots lead one
pub record IsWhole (p : Program) (others : List ℕ) (nodes : List Node) : Type 0 where
  pub all : (a : ℕ) → (list_any (nat_eq a) (map (λ n. n.at) nodes) ≡ true) ↔ IsAddressFrom p others a
  pub distinct : IsDistinct nat_eq (map (λ n. n.at) nodes)
  pub each : All (λ n. IsNode p n) nodes
  pub stay : All (λ n. n.keeps ≡ n.flags.assigns) nodes
