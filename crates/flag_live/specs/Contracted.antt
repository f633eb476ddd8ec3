-- A graph in which the flags are read besides that contracts read, and the flag assignments that are live with contracts.
use Rattle.std.specs.Prelude.{ℕ, ◌≡◌, ◌<◌, ◌↔◌, ◌||◌, Bool, true, All, List}
use Rattle.std.specs.List.{AllZip}
use Rattle.bilv_spec.specs.LiveFlags.{assigns_by}
use Rattle.bilv_spec.specs.Points.{file_row}
use Rattle.bilv_spec.specs.Run.{Program}
use Rattle.frame_spec.specs.Frames.{Contract, contract_at}
use Rattle.frame_spec.specs.FrameUnrolling.{IsReadAfter, contract_reads, exit_reads}
use Rattle.graph_nodes.specs.Graphs.{IsFlagSet, IsSameNode, has_flag}
use Rattle.graph_nodes.specs.declared.nodes.Node.{Node}
use Rattle.graph_nodes.specs.declared.nodes.Graph.{Graph}
use Rattle.flag_live.specs.GraphReads.{LiveStayIn}

-- a node is another, with flags that a contract step reads among those that are read at its address
pub record IsAsked (contracts : List Contract) (old new : Node) : Type 0 where
  pub same : IsSameNode (record old { asserted = new.asserted }) new
  pub asserted : (test : ℕ → Bool) → IsFlagSet old.asserted test → IsFlagSet new.asserted (λ f. test f || contract_reads f (contract_at contracts old.at))

-- a graph is another, with the flags that contracts read, at the exit too
pub record IsAskedBy (contracts : List Contract) (old new : Graph) : Type 0 where
  pub nodes : AllZip (IsAsked contracts) old.nodes.items new.nodes.items
  pub ensured : (test : ℕ → Bool) → IsFlagSet old.ensured test → IsFlagSet new.ensured (λ f. test f || exit_reads f contracts)

-- the assignments stay that are live in a graph with what contracts read, and no others
pub record LiveStayBy (contracts : List Contract) (old new : Graph) : Type 0 where
  pub asked : Graph
  pub is : IsAskedBy contracts old asked
  pub live : LiveStayIn asked new

-- the assignment of a flag at an address is live in the frames of a program with contracts
pub record IsLiveWith (p : Program) (contracts : List Contract) (f a : ℕ) : Type 0 where
  pub assigns : assigns_by f (file_row p a) ≡ true
  pub read : IsReadAfter p contracts f a

-- the assignments stay that are live, and no others
pub record IsKeptWith (p : Program) (contracts : List Contract) (n : Node) : Type 0 where
  pub small : n.keeps < 16
  pub exact : (f : ℕ) → f < 4 → (has_flag n.keeps f ≡ true) ↔ IsLiveWith p contracts f n.at

abbrev pub LiveStayWith : Program → List Contract → Graph → Type 0
LiveStayWith p contracts g = All (λ n. IsKeptWith p contracts n) g.nodes.items
