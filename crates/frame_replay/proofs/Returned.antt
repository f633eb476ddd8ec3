-- The addresses behind calls of a graph.
use Rattle.std.proofs.Common.{◌≡◌, ℕ, zero, suc, ◌<◌, Bool, true, false, List, [], ◌∷◌, length, get_or, map, refl, ap, sym, ◌∙◌, subst, arith, eq-eqb}
use Rattle.std.specs.Prelude.{◌&&◌, nat_eq, Contains, All, eqb}
use Rattle.std.specs.List.{list_any, dedup}
use Rattle.std.specs.List.Sorted.{IsPermutation}
use Rattle.std.proofs.Math.Path.{fun_ext}
use Rattle.std.proofs.lemmas.Bool.{eqb-true}
use Rattle.std.proofs.lemmas.List.{get_or-map, length-map}
use Rattle.std.proofs.lemmas.List.Elements.{All-contains, All-head, All-tail}
use Rattle.std.proofs.lemmas.List.Folds.{Any-from_list_any}
use Rattle.std.proofs.lemmas.List.Kept.{Contains-dedup_nat, Contains-from_dedup}
use Rattle.std.proofs.lemmas.List.Sorted.{list_any-IsPermutation}
use Rattle.bilv_spec.specs.Run.{Program}
use Rattle.bilv_spec.specs.Graph as graph
use Rattle.bilv_spec.specs.PointLaws.{IsReturnAddress}
use Rattle.flow_graph.proofs.Members.{at_in, or_left, or_right, place_in, same_truth}
use Rattle.frame_texts_spec.specs.FrameReplays.{TellsReturns}
use Rattle.graph_nodes.specs.Graphs.{IsGraph, IsNode, addresses_of, letter_of, successor_of, successors_of}
use Rattle.graph_nodes.specs.declared.nodes.Graph.{Graph}
use Rattle.graph_nodes.specs.declared.nodes.Node.{Node}
use Rattle.graph_nodes.specs.declared.nodes.Successor.{Successor}
use Rattle.frame_replay.specs.Readings.{is_among}
use Rattle.frame_replay.specs.Returns.{is_return, returns_to, node_returns_to}

-- sorting and dropping doubles keeps what is among numbers
pub ordered_among : (xs ys zs : List ℕ) → IsPermutation xs ys → zs ≡ dedup eqb ys → (a : ℕ) → is_among zs a ≡ is_among xs a
ordered_among xs ys zs p e a =
    same_truth (is_among zs a) (is_among ys a)
    (λ t.
    let place = place_in a zs t in
    let there = Contains-from_dedup eqb ys a (subst (λ (l : List ℕ). Contains l a) e place) in
    at_in a ys there.0 a there.1 there.2)
    (λ t.
    let there : Contains zs a = subst (λ (l : List ℕ). Contains l a) (sym e) (Contains-dedup_nat ys a (place_in a ys t)) in
    at_in a zs there.0 a there.1 there.2)
    ∙ sym (list_any-IsPermutation (nat_eq a) xs ys p)

-- a letter that is counted
behind_call : (l : graph.Letter) → is_return l ≡ true → l ≡ graph.ReturnLetter
behind_call graph.NextLetter t = absurd (cc)
behind_call graph.JumpLetter t = absurd (cc)
behind_call graph.CallLetter t = absurd (cc)
behind_call graph.ReturnLetter t = refl

-- a successor that is counted is the address behind a call
counted : (a : ℕ) (s : Successor) → returns_to a s ≡ true → successor_of s ≡ graph.successor graph.ReturnLetter a
counted a s t =
    let both = and_parts (is_return (letter_of s.letter)) (nat_eq a s.to) t in
    ap (λ l. graph.successor l s.to) (behind_call (letter_of s.letter) both.0) ∙ ap (graph.successor graph.ReturnLetter) (sym (eqb-true a s.to both.1))
  where
    and_parts : (x y : Bool) → (x && y) ≡ true → (x ≡ true) × (y ≡ true)
    and_parts true y h = (refl, h)
    and_parts false y h = absurd (cc)

-- a return address is counted among the successors of its call
among_successors : (a : ℕ) (ss : List Successor) (k : ℕ) → k < length (map successor_of ss) →
    get_or (map successor_of ss) k (graph.successor graph.ReturnLetter a) ≡ graph.successor graph.ReturnLetter a → list_any (returns_to a) ss ≡ true
among_successors a [] k w e = absurd (omega arith)
among_successors a (s ∷ ss) zero w e =
    or_left (returns_to a s) (list_any (returns_to a) ss) (ap (λ (x : graph.Successor). is_return x.letter && nat_eq a x.to) e ∙ eq-eqb a a refl)
among_successors a (s ∷ ss) (suc k) w e = or_right (returns_to a s) (list_any (returns_to a) ss) (among_successors a ss k (omega arith) e)

module _ (p : Program) (a : ℕ) where
  -- and among nodes
  among_nodes : (b : ℕ) → Contains (graph.successors_at p b) (graph.successor graph.ReturnLetter a) → (ns : List Node) → All (λ n. IsNode p n) ns → (i : ℕ) →
      i < length (map (λ n. n.at) ns) → get_or (map (λ n. n.at) ns) i b ≡ b → list_any (node_returns_to a) ns ≡ true
  among_nodes b there [] each i w e = absurd (omega arith)
  among_nodes b there (n ∷ ns) each zero w e =
      let same : graph.successors_at p b ≡ successors_of n = sym ((All-head (λ n. IsNode p n) n ns each).successors ∙ ap (graph.successors_at p) e) in
      let place : Contains (successors_of n) (graph.successor graph.ReturnLetter a) =
      subst (λ (l : List graph.Successor). Contains l (graph.successor graph.ReturnLetter a)) same there in
      or_left (node_returns_to a n) (list_any (node_returns_to a) ns) (among_successors a n.successors.items place.0 place.1 place.2)
  among_nodes b there (n ∷ ns) each (suc i) w e =
      or_right (node_returns_to a n) (list_any (node_returns_to a) ns)
      (among_nodes b there ns (All-tail (λ n. IsNode p n) n ns each) i (omega arith) e)

  -- what is counted among nodes is a return address
  from_nodes : (g : Graph) → IsGraph p g → list_any (node_returns_to a) g.nodes.items ≡ true → IsReturnAddress p a
  from_nodes g is t =
      let node = Any-from_list_any (node_returns_to a) g.nodes.items t in
      let n : Node = node.1 in
      let one = Any-from_list_any (returns_to a) n.successors.items node.4 in
      let s : Successor = one.1 in
      let at : get_or (addresses_of g) node.0 n.at ≡ n.at = get_or-map (λ n. n.at) g.nodes.items node.0 n n.at node.2 ∙ ap (λ n. n.at) node.3 in
      let to : get_or (successors_of n) one.0 (graph.successor graph.ReturnLetter a) ≡ graph.successor graph.ReturnLetter a =
      get_or-map successor_of n.successors.items one.0 s (graph.successor graph.ReturnLetter a) one.2 ∙ ap successor_of one.3 ∙ counted a s one.4 in
      let small : node.0 < length (addresses_of g) = omega (arith, length-map g.nodes.items (λ (n : Node). n.at), node.2) in
      let few : one.0 < length (successors_of n) = omega (arith, length-map n.successors.items successor_of, one.2) in
      let nodal : IsNode p n = All-contains (λ n. IsNode p n) g.nodes.items n is.nodes (node.0, node.2, node.3) in (
        n.at,
        (is.all n.at).0 (node.0, small, at),
        subst (λ (l : List graph.Successor). Contains l (graph.successor graph.ReturnLetter a)) nodal.successors (one.0, few, to),
      )

-- the numbers that are counted among the nodes of a graph are the return addresses of its program
pub tells_returns : (p : Program) (g : Graph) (returns : List ℕ) → IsGraph p g → ((a : ℕ) → is_among returns a ≡ list_any (node_returns_to a) g.nodes.items) →
    TellsReturns p (is_among returns)
tells_returns p g returns is same a = (
  (λ t. from_nodes p a g is (sym (same a) ∙ t)),
  (λ r.
      let there = (is.all r.0).1 r.1 in
      same a ∙ among_nodes p a r.0 r.2 g.nodes.items is.nodes there.0 there.1 there.2),
)

-- two tests that tell the return addresses of a program are one
pub one_test : (p : Program) (f g : ℕ → Bool) → TellsReturns p f → TellsReturns p g → f ≡ g
one_test p f g tf tg = fun_ext (λ a. same_truth (f a) (g a) (λ t. (tg a).1 ((tf a).0 t)) (λ t. (tf a).1 ((tg a).0 t)))
