-- The graph of notes with contracts, as a value.
use Rattle.std.specs.Prelude.{ℕ, ◌≡◌, ◌<◌, ◌↔◌, true, All, List, Contains, map}
use Rattle.answer_spec.specs.FrameGraphs.{IsAddress, IsLive}
use Rattle.bilv_spec.specs.LiveFlags.{ensures_flag}
use Rattle.bilv_spec.specs.Run.{Program}
use Rattle.frame_spec.specs.FrameVerdict.{Whole}
use Rattle.notes_value.specs.FrameViews.{contract_of}
use Rattle.notes_value.specs.declared.notes.Contract.{Contract}
use Rattle.graph_nodes.specs.Graphs.{IsFlagSet, IsNode, addresses_of, has_flag}
use Rattle.graph_nodes.specs.Places.{AreRising}
use Rattle.graph_nodes.specs.declared.nodes.Node.{Node}
use Rattle.graph_nodes.specs.declared.nodes.Graph.{Graph}

-- a program with invariants and contracts
abbrev pub whole_with : Program → (heads : List ℕ) → List Contract → Whole
whole_with p heads contracts = record { program = p; invariants = heads; contracts = map contract_of contracts }

-- the value is the graph, whatever assignments stay: it has each address once, rising
pub record IsWholeGraph (w : Whole) (g : Graph) : Type 0 where
  pub narrow : g.narrow ≡ w.program.machine.narrow
  pub all : (a : ℕ) → Contains (addresses_of g) a ↔ IsAddress w a
  pub rising : AreRising g.nodes.items
  pub nodes : All (λ n. IsNode w.program n) g.nodes.items
  pub ensured : IsFlagSet g.ensured (λ f. ensures_flag w.program f)

-- the assignments stay that are live, and no others
pub record IsKeptLive (w : Whole) (n : Node) : Type 0 where
  pub small : n.keeps < 16
  pub exact : (f : ℕ) → f < 4 → (has_flag n.keeps f ≡ true) ↔ IsLive w f n.at

abbrev pub LiveStayWhole : Whole → Graph → Type 0
LiveStayWhole w g = All (λ n. IsKeptLive w n) g.nodes.items
