-- What a value says of the flow graph of a program.
use Rattle.std.specs.Prelude.{ℕ, ◌≡◌, ◌<◌, ◌==◌, ◌↔◌, Bool, true, false, List, Option, Some, None, is_some, map, length, slice_index, Contains, All, if◌then◌else◌}
use Rattle.std.specs.List.{AllZip}
use Rattle.word_spec.specs.Words.{bit_at}
use Rattle.machine_spec.specs.Machine.{Row}
use Rattle.bilv_spec.specs.Run.{Program, fetchable}
use Rattle.bilv_spec.specs.Points.{file_row, file_word}
use Rattle.bilv_spec.specs.Graph as graph
use Rattle.bilv_spec.specs.Graph.{successors_at, may_return, IsAddress}
use Rattle.bilv_spec.specs.LiveFlags.{reads_by, assigns_by, surely_by, asserts_flag, ensures_flag, IsLive}
use Rattle.machine_law.specs.declared.facts.FlagUse.{FlagUse}
use Rattle.graph_nodes.specs.declared.nodes.Letter.{Letter}
use Rattle.graph_nodes.specs.declared.nodes.Letter.TheVariants.{Next, Jump, Call, Return}
use Rattle.graph_nodes.specs.declared.nodes.Successor.{Successor}
use Rattle.graph_nodes.specs.declared.nodes.Node.{Node}
use Rattle.graph_nodes.specs.declared.nodes.Graph.{Graph}

-- a letter
abbrev pub letter_of : Letter → graph.Letter
letter_of Next = graph.NextLetter
letter_of Jump = graph.JumpLetter
letter_of Call = graph.CallLetter
letter_of Return = graph.ReturnLetter

-- a successor
abbrev pub successor_of : Successor → graph.Successor
successor_of s = record { letter = letter_of s.letter; to = s.to }

-- the successors of a node
abbrev pub successors_of : Node → List graph.Successor
successors_of n = map successor_of n.successors.items

-- the set of flags, N 8, Z 4, C 2 and V 1, has the flag
abbrev pub has_flag : ℕ → ℕ → Bool
has_flag set f = bit_at f set == 1

-- the set has no more than the four flags, and those of them that pass a test
pub record IsFlagSet (set : ℕ) (test : ℕ → Bool) : Type 0 where
  pub small : set < 16
  pub exact : (f : ℕ) → f < 4 → has_flag set f ≡ test f

-- the node's word is the file's, where there is a row
abbrev pub node_word : Program → ℕ → Option ℕ
node_word p a = if is_some (file_row p a) then Some (file_word p a) else None

-- how many bytes a row has, 4 where there is none
abbrev pub row_length : Option Row → ℕ
row_length None = 4
row_length (Some row) = row.length

-- the row keeps the address after it in the link register where it calls
abbrev pub row_links : Option Row → Bool
row_links None = false
row_links (Some row) = row.links

-- what a node says of the flags that the row at an address uses
pub record IsFlagUseAt (p : Program) (a : ℕ) (u : FlagUse) : Type 0 where
  pub reads : IsFlagSet u.reads (λ f. reads_by f (file_row p a))
  pub assigns : IsFlagSet u.assigns (λ f. assigns_by f (file_row p a))
  pub surely : IsFlagSet u.surely (λ f. surely_by f (file_row p a))

-- the node says what the program has at its address
pub record IsNode (p : Program) (n : Node) : Type 0 where
  pub length : n.length ≡ row_length (file_row p n.at)
  pub fetchable : n.fetchable ≡ fetchable p (file_word p n.at) n.at
  pub word : n.word ≡ node_word p n.at
  pub successors : successors_of n ≡ successors_at p n.at
  pub returns : n.returns ≡ may_return p n.at
  pub links : n.links ≡ row_links (file_row p n.at)
  pub flags : IsFlagUseAt p n.at n.flags
  pub asserted : IsFlagSet n.asserted (λ f. asserts_flag p f n.at)

-- the addresses of a graph
abbrev pub addresses_of : Graph → List ℕ
addresses_of g = map (λ n. n.at) g.nodes.items

-- the value is the program's graph, whatever assignments stay: it has each address once, rising
pub record IsGraph (p : Program) (g : Graph) : Type 0 where
  pub narrow : g.narrow ≡ p.machine.narrow
  pub all : (a : ℕ) → Contains (addresses_of g) a ↔ IsAddress p a
  pub rising : (i j : ℕ) → i < j → j < length g.nodes.items → slice_index (addresses_of g) i < slice_index (addresses_of g) j
  pub nodes : All (λ n. IsNode p n) g.nodes.items
  pub ensured : IsFlagSet g.ensured (λ f. ensures_flag p f)

-- each assignment stays
abbrev pub AllStay : Graph → Type 0
AllStay g = All (λ n. n.keeps ≡ n.flags.assigns) g.nodes.items

-- the assignments stay that are live, and no others
pub record IsKeptLive (p : Program) (n : Node) : Type 0 where
  pub small : n.keeps < 16
  pub exact : (f : ℕ) → f < 4 → (has_flag n.keeps f ≡ true) ↔ IsLive p f n.at

abbrev pub LiveStay : Program → Graph → Type 0
LiveStay p g = All (λ n. IsKeptLive p n) g.nodes.items

-- two nodes are the same, whatever assignments stay
pub record IsSameNode (old new : Node) : Type 0 where
  pub at : new.at ≡ old.at
  pub length : new.length ≡ old.length
  pub fetchable : new.fetchable ≡ old.fetchable
  pub word : new.word ≡ old.word
  pub successors : successors_of new ≡ successors_of old
  pub returns : new.returns ≡ old.returns
  pub links : new.links ≡ old.links
  pub flags : new.flags ≡ old.flags
  pub asserted : new.asserted ≡ old.asserted

-- two graphs are the same, whatever assignments stay
pub record IsSameGraph (old new : Graph) : Type 0 where
  pub narrow : new.narrow ≡ old.narrow
  pub nodes : AllZip IsSameNode old.nodes.items new.nodes.items
  pub ensured : new.ensured ≡ old.ensured
