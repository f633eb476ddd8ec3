-- The addresses of a graph, as a test of them and as the definitions of graphs say.
use Rattle.std.proofs.Common.{◌≡◌, ℕ, ap, sym, ◌∙◌, subst, List, map, true}
use Rattle.std.specs.Prelude.{◌↔◌, nat_eq, Contains}
use Rattle.std.specs.List.{list_any}
use Rattle.answer_spec.specs.FrameGraphs as frames
use Rattle.answer_spec.specs.FrameGraphs.{IsAddress}
use Rattle.bilv_spec.specs.Graph as own
use Rattle.bilv_spec.specs.Run.{Program}
use Rattle.frame_spec.specs.Frames.{Contract}
use Rattle.frame_spec.specs.FrameVerdict.{Whole}
use Rattle.graph_nodes.specs.Graphs.{IsGraph, addresses_of}
use Rattle.graph_nodes.specs.declared.nodes.Graph.{Graph}
use Rattle.notes_value.specs.FrameViews.{contract_of}
use Rattle.notes_value.specs.declared.notes.Contract as code
use Rattle.flow_graph.specs.Walks.{IsAddressFrom, entry, other, listed, IsGraphFrom}
use Rattle.flow_graph.proofs.Members.{maps}
use Rattle.flow_graph.proofs.Walking.{from_images, to_images, has_of, of_has}
use Rattle.note_check.specs.Reached.{stands_in, whole_from}

address_of : (w : Whole) (others : List ℕ) → others ≡ map (λ x. x.at) w.contracts → (a : ℕ) → IsAddressFrom w.program others a → IsAddress w a
address_of w others e a entry = frames.entry
address_of w others e a (other has) =
    let found = from_images (λ (x : Contract). x.at) a w.contracts (sym (ap (λ (l : List ℕ). list_any (nat_eq a) l) e) ∙ of_has a others has) in
    subst (IsAddress w) found.2 (frames.contract found.0 found.1)
address_of w others e a (listed from has) = frames.listed (address_of w others e _ from) has

of_address : (w : Whole) (others : List ℕ) → others ≡ map (λ x. x.at) w.contracts → (a : ℕ) → IsAddress w a → IsAddressFrom w.program others a
of_address w others e a frames.entry = entry
of_address w others e a (frames.contract x has) =
    other (subst (λ (l : List ℕ). Contains l x.at) (sym e) (has_of x.at (map (λ (y : Contract). y.at) w.contracts)
    (to_images (λ (y : Contract). y.at) x w.contracts has)))
of_address w others e a (frames.listed from has) = listed (of_address w others e _ from) has

-- a graph from the entry and the contracts' addresses has those of the notes' graph
pub stands_whole : (p : Program) (invariants others : List ℕ) (contracts : List code.Contract) (g : Graph) → others ≡ map (λ c. c.at) contracts
    → IsGraphFrom p others g → (a : ℕ) → (stands_in g a ≡ true) ↔ IsAddress (whole_from p invariants contracts) a
stands_whole p invariants others contracts g e is a =
    let w = whole_from p invariants contracts in
    let same : others ≡ map (λ x. x.at) w.contracts = e ∙ sym (maps (λ (x : Contract). x.at) contract_of contracts) in (
      λ h. address_of w others same a ((is.all a).0 (has_of a (addresses_of g) h)),
      λ h. of_has a (addresses_of g) ((is.all a).1 (of_address w others same a h)),
    )

-- the graph of the program alone has its addresses
pub stands_own : (p : Program) (g : Graph) → IsGraph p g → (a : ℕ) → (stands_in g a ≡ true) ↔ own.IsAddress p a
stands_own p g is a = (λ h. (is.all a).0 (has_of a (addresses_of g) h), λ h. of_has a (addresses_of g) ((is.all a).1 h))
