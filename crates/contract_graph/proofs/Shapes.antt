-- The graph of notes with contracts: from a program's graph from several roots, and whatever assignments stay.
use Rattle.std.proofs.Common.{◌≡◌, ℕ, ◌<◌, ◌+◌, ap, sym, ◌∙◌, subst, List, [], ◌∷◌, ◌++◌, take, length, get_or, map}
use Rattle.std.specs.Prelude.{◌||◌, Contains, nat_eq}
use Rattle.std.specs.List.{list_any}
use Rattle.std.proofs.lemmas.List.{map-append, take_more}
use Rattle.answer_spec.specs.FrameGraphs as frames
use Rattle.answer_spec.specs.FrameGraphs.{IsAddress}
use Rattle.frame_spec.specs.Frames.{Contract}
use Rattle.frame_spec.specs.FrameVerdict.{Whole}
use Rattle.graph_nodes.specs.Graphs.{IsFlagSet, IsNode, IsSameNode, IsSameGraph, addresses_of, has_flag}
use Rattle.graph_nodes.specs.declared.nodes.Graph.{Graph}
use Rattle.flow_graph.specs.Walks.{IsAddressFrom, entry, other, listed, IsGraphFrom}
use Rattle.flow_graph.proofs.Walking.{from_images, to_images, has_of, of_has}
use Rattle.flag_live.specs.Asked.{ensuring}
use Rattle.flag_live.proofs.FlagSets.{no_flags}
use Rattle.flag_live.proofs.Graphed.{same_node}
use Rattle.flag_live.proofs.Zipped.{rising_too, said, same_ats}
use Rattle.contract_graph.specs.Wholes.{IsWholeGraph}

-- the addresses to which the entry and the contracts lead
address_of : (w : Whole) (others : List ℕ) → others ≡ map (λ x. x.at) w.contracts → (a : ℕ) → IsAddressFrom w.program others a → IsAddress w a
address_of w others e a entry = frames.entry
address_of w others e a (other has) =
    let found = from_images (λ (x : Contract). x.at) a w.contracts (sym (ap (λ (l : List ℕ). list_any (nat_eq a) l) e) ∙ of_has a others has) in
    subst (IsAddress w) found.2 (frames.contract found.0 found.1)
address_of w others e a (listed from has) = frames.listed (address_of w others e _ from) has

of_address : (w : Whole) (others : List ℕ) → others ≡ map (λ x. x.at) w.contracts → (a : ℕ) → IsAddress w a → IsAddressFrom w.program others a
of_address w others e a frames.entry = entry
of_address w others e a (frames.contract x has) =
    other (subst (λ (l : List ℕ). Contains l x.at) (sym e) (has_of x.at (map (λ (y : Contract). y.at) w.contracts)
    (to_images (λ (y : Contract). y.at) x w.contracts has)))
of_address w others e a (frames.listed from has) = listed (of_address w others e _ from) has

-- the graph, whatever assignments stay
pub whole_graph : (w : Whole) (others : List ℕ) (old new : Graph) → others ≡ map (λ x. x.at) w.contracts → IsGraphFrom w.program others old
    → IsFlagSet new.ensured (λ f. has_flag 0 f || has_flag old.ensured f) → IsSameGraph (ensuring old new.ensured) new → IsWholeGraph w new
whole_graph w others old new e is asked same =
    let at = same_ats IsSameNode (λ o n s. s.at) old.nodes.items new.nodes.items same.nodes in
    record {
      narrow = same.narrow ∙ is.narrow;
      all = λ a. (
        λ has. address_of w others e a ((is.all a).0 (subst (λ (l : List ℕ). Contains l a) at has)),
        λ here. subst (λ (l : List ℕ). Contains l a) (sym at) ((is.all a).1 (of_address w others e a here)),
      );
      rising = rising_too IsSameNode (λ o n s. s.at) old.nodes.items new.nodes.items same.nodes is.rising;
      nodes =
          said IsSameNode (λ n. IsNode w.program n) (λ n. IsNode w.program n) (same_node w.program) old.nodes.items new.nodes.items same.nodes is.nodes;
      ensured = record {
        small = asked.small;
        exact = λ f few. asked.exact f few ∙ ap (λ b. b || has_flag old.ensured f) (no_flags.exact f few) ∙ is.ensured.exact f few;
      };
    }

pub same_addresses : (old new : Graph) → IsSameGraph old new → addresses_of new ≡ addresses_of old
same_addresses old new same = same_ats IsSameNode (λ o n s. s.at) old.nodes.items new.nodes.items same.nodes

-- the images of items that are taken in turn
pub taken_more : {X : Type 0} (f : X → ℕ) (xs : List X) (i : ℕ) (x : X) (old new : List ℕ) → i < length xs → x ≡ get_or xs i x → new ≡ old ++ f x ∷ []
    → old ≡ map f (take i xs) → new ≡ map f (take (i + 1) xs)
taken_more f xs i x old new fits is grown before =
    grown ∙ ap (λ l. l ++ f x ∷ []) before ∙ ap (λ y. map f (take i xs) ++ f y ∷ []) is ∙ sym (map-append f (take i xs) (get_or xs i x ∷ []))
    ∙ ap (map f) (sym (take_more xs i x fits))
