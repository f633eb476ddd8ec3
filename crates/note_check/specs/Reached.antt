-- Lines and contracts at addresses that the flow graph does not reach.
use Rattle.std.specs.Prelude.{ℕ, ◌≡◌, ◌↔◌, ◌++◌, nat_eq, not, Bool, true, List, map, filter, if◌then◌else◌}
use Rattle.std.specs.List.{list_any}
use Rattle.answer_spec.specs.FrameGraphs as whole
use Rattle.bilv_spec.specs.Graph as own
use Rattle.bilv_spec.specs.Notes.{Assert, Targets}
use Rattle.bilv_spec.specs.Run.{Program}
use Rattle.frame_spec.specs.Frames.{Contract}
use Rattle.frame_spec.specs.FrameVerdict.{Whole}
use Rattle.graph_nodes.specs.Graphs.{addresses_of}
use Rattle.graph_nodes.specs.declared.nodes.Graph.{Graph}
use Rattle.notes_value.specs.FrameViews.{contract_of}
use Rattle.notes_value.specs.declared.notes.Contract as code
use Rattle.note_check.specs.declared.warning.Warning.{Warning}
use Rattle.note_check.specs.declared.warning.Warning.TheVariants.{UnreachedAssert, UnreachedInvariant, UnreachedTargets, UncalledContract}

-- a program whose notes have invariants, by the numbers of their lines, and contracts
abbrev pub whole_from : Program → (invariants : List ℕ) → List code.Contract → Whole
whole_from p invariants contracts = record { program = p; invariants = invariants; contracts = map contract_of contracts }

-- the warning of an assert line, which may be an invariant
abbrev pub line_warning : (invariants : List ℕ) → (line at : ℕ) → Warning
line_warning invariants line at = if list_any (nat_eq line) invariants then UnreachedInvariant line at else UnreachedAssert line at

-- the warnings of those assert lines whose address does not pass a test
abbrev pub line_warnings : (reached : ℕ → Bool) → (invariants : List ℕ) → List Assert → List Warning
line_warnings reached invariants asserts = map (λ x. line_warning invariants x.line x.at) (filter (λ x. not (reached x.at)) asserts)

-- those of targets lines
abbrev pub targets_warnings : (reached : ℕ → Bool) → List Targets → List Warning
targets_warnings reached targets = map (λ x. UnreachedTargets x.at) (filter (λ x. not (reached x.at)) targets)

-- those of contracts
abbrev pub contract_warnings : (called : ℕ → Bool) → List Contract → List Warning
contract_warnings called contracts = map (λ x. UncalledContract x.at) (filter (λ x. not (called x.at)) contracts)

-- What was found is the warnings of the assert lines, the targets lines and the contracts, each in their order, whose address is not reached. A line is reached
-- where the flow graph of the notes, to which each contract's function belongs, has its address; a contract where that of the notes' function alone has it.
pub record AreUnreached (w : Whole) (found : List Warning) : Type 0 where
  pub reached : ℕ → Bool
  pub called : ℕ → Bool
  pub reached_is : (a : ℕ) → (reached a ≡ true) ↔ whole.IsAddress w a
  pub called_is : (a : ℕ) → (called a ≡ true) ↔ own.IsAddress w.program a
  pub found_is : found ≡ line_warnings reached w.invariants w.program.notes.asserts ++ targets_warnings reached w.program.notes.targets
      ++ contract_warnings called w.contracts

-- a graph has the address
abbrev pub stands_in : Graph → ℕ → Bool
stands_in g a = list_any (nat_eq a) (addresses_of g)
