-- Nodes by their places and addresses.
use Rattle.std.proofs.Common.{◌≡◌, ℕ, ◌≤◌, ◌<◌, List, [], ◌∷◌, length, get_or, sym, ap, ◌∙◌, arith, inl, inr}
use Rattle.std.specs.List.{AllWithin}
use Rattle.std.specs.List.Sorted.{IsNonDecreasingBy}
use Rattle.std.proofs.lemmas.Bool.{cases_lt}
use Rattle.std.specs.Prelude.{Contains}
use Rattle.std.proofs.lemmas.List.{get_or-map, get_or_default, length-map}
use Rattle.graph_nodes.specs.declared.nodes.Node.{Node}
use Rattle.graph_nodes.specs.Places.{ats, AreRising, IsPlace}

pub at_is : (nodes : List Node) (i : ℕ) (d : Node) → i < length nodes → get_or (ats nodes) i 0 ≡ (get_or nodes i d).at
at_is nodes i d w = get_or-map (λ (n : Node). n.at) nodes i d 0 w

-- some node of nodes
pub some_node : (nodes : List Node) → 0 < length nodes → Node
some_node [] w = absurd (omega arith)
some_node (n ∷ nodes) w = n

-- rising addresses do not fall
pub not_falling : (nodes : List Node) → AreRising nodes → IsNonDecreasingBy (λ n. n.at) nodes
not_falling nodes rising i j d le w = elim (cases_lt i j) as (λ _. (get_or nodes i d).at ≤ (get_or nodes j d).at) [
  | inl less ↦ (let one = at_is nodes i d (omega arith) in let other = at_is nodes j d w in let up = rising i j less w in omega arith)
  | inr same ↦ (let e : i ≡ j = omega arith in let f : (get_or nodes i d).at ≡ (get_or nodes j d).at = ap (λ (k : ℕ). (get_or nodes k d).at) e in omega arith)
]

-- where the addresses from one on begin is the address's only place
pub place_is : (nodes : List Node) (a i : ℕ) → AllWithin (λ n. n.at < a) nodes 0 i → AllWithin (λ n. a ≤ n.at) nodes i (length nodes)
    → AreRising nodes → (j : ℕ) → IsPlace nodes a j → i ≡ j
place_is nodes a i before behind rising j place =
    let within = place.within in
    let is = place.is in
    let d = some_node nodes (omega arith) in
    let here = at_is nodes j d within in
    elim (cases_lt j i) as (λ _. i ≡ j) [
      | inl low ↦ (let b = before j d (omega arith) low in absurd (omega arith))
      | inr from ↦ elim (cases_lt i j) as (λ _. i ≡ j) [
        | inl high ↦
            let up = rising i j high within in
            let there = at_is nodes i d (omega arith) in
            let b = behind i d (omega arith) (omega arith) in
            absurd (omega arith)
        | inr le ↦ omega arith
      ]
    ]

place_here : (nodes : List Node) (a i j : ℕ) (n : Node) → n ≡ get_or nodes i n → i ≡ j → IsPlace nodes a j → n.at ≡ a
place_here nodes a i j n at e place =
    ap (λ (m : Node). m.at) at ∙ ap (λ (k : ℕ). (get_or nodes k n).at) e ∙ sym (at_is nodes j n place.within) ∙ place.is

-- a node with another address does not stand at the address's place
pub other_place : (nodes : List Node) (a i j : ℕ) (n : Node) → n ≡ get_or nodes i n → i ≡ j → IsPlace nodes a j → ((get_or nodes i n).at ≡ a → ⊥) → ⊥
other_place nodes a i j n at e place other = other (ap (λ (m : Node). m.at) (sym at) ∙ place_here nodes a i j n at e place)

-- an address that is among those of nodes has a place
pub among_place : (nodes : List Node) (a : ℕ) → Contains (ats nodes) a → (i : ℕ) × IsPlace nodes a i
among_place nodes a (k, w, e) =
    let inside : k < length nodes = rw (length-map nodes (λ (n : Node). n.at)) at w in
    (k, record { within = inside; is = get_or_default (ats nodes) k 0 a w ∙ e })

-- the node at a place is one of the nodes
pub place_node : (nodes : List Node) (a i : ℕ) (n : Node) → n ≡ get_or nodes i n → IsPlace nodes a i → (n.at ≡ a) × Contains nodes n
place_node nodes a i n is place =
    (ap (λ (m : Node). m.at) is ∙ sym (at_is nodes i n place.within) ∙ place.is, (i, place.within, sym is))
