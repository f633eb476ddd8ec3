-- Nodes by their places and addresses.
use Rattle.std.proofs.Common.{◌≡◌, ℕ, ◌<◌, List, length, get_or, refl, sym, ap, ◌∙◌, subst, arith, inl, inr}
use Rattle.std.proofs.lemmas.Bool.{cases_lt}
use Rattle.std.proofs.lemmas.List.{get_or_default}
use Rattle.graph_nodes.proofs.Places.{at_is, some_node}
use Rattle.graph_nodes.specs.declared.nodes.Node.{Node}
use Rattle.graph_nodes.specs.declared.nodes.Graph.{Graph}
use Rattle.graph_nodes.specs.Places.{AreRising, IsPlace}
use Rattle.flag_live.specs.GraphReads.{StandsAt}
use Rattle.flag_live.specs.Vertices.{IsNodeAt}

-- a place has one node
pub node_is : (nodes : List Node) (i : ℕ) (m n : Node) → IsNodeAt nodes i m → IsNodeAt nodes i n → m ≡ n
node_is nodes i m n one other = sym one.is ∙ get_or_default nodes i m n one.within ∙ other.is

pub node_place : (nodes : List Node) (i : ℕ) (n : Node) → IsNodeAt nodes i n → IsPlace nodes n.at i
node_place nodes i n at = record { within = at.within; is = at_is nodes i n at.within ∙ ap (λ (m : Node). m.at) at.is }

pub node_from_read : (nodes : List Node) (i : ℕ) (n : Node) → i < length nodes → n ≡ get_or nodes i n → IsNodeAt nodes i n
node_from_read nodes i n w e = record { within = w; is = sym e }

-- the node at the place of an address
pub place_node : (nodes : List Node) (a i : ℕ) → IsPlace nodes a i → (n : Node) × IsNodeAt nodes i n × (n.at ≡ a)
place_node nodes a i place =
    let within = place.within in
    let d = some_node nodes (omega arith) in
    let n = get_or nodes i d in (
      n,
      record { within = within; is = get_or_default nodes i n d within },
      sym (at_is nodes i d within) ∙ place.is,
    )

-- a node at a place stands at its address, and one that stands at an address has a place
pub node_stands : (g : Graph) (i : ℕ) (n : Node) → IsNodeAt g.nodes.items i n → StandsAt g n.at n
node_stands g i n at = record { among = (i, at.within, at.is); at = refl }

pub stands_node : (g : Graph) (a : ℕ) (n : Node) → StandsAt g a n → (i : ℕ) × IsNodeAt g.nodes.items i n
stands_node g a n stands = (stands.among.0, record { within = stands.among.1; is = stands.among.2 })

pub stands_place : (g : Graph) (a : ℕ) (n : Node) → StandsAt g a n → (i : ℕ) × IsPlace g.nodes.items a i
stands_place g a n stands =
    let at = stands_node g a n stands in
    (at.0, subst (λ (x : ℕ). IsPlace g.nodes.items x at.0) stands.at (node_place g.nodes.items at.0 n at.1))

-- where addresses rise, an address has one place, and one node
one_place : (nodes : List Node) → AreRising nodes → (a i j : ℕ) → IsPlace nodes a i → IsPlace nodes a j → i ≡ j
one_place nodes rising a i j one other =
    let here = one.is in
    let there = other.is in
    elim (cases_lt i j) as (λ _. i ≡ j) [
      | inl low ↦ (let up = rising i j low other.within in absurd (omega arith))
      | inr from ↦ elim (cases_lt j i) as (λ _. i ≡ j) [
        | inl low ↦ (let up = rising j i low one.within in absurd (omega arith))
        | inr upto ↦ omega arith
      ]
    ]

pub place_stands : (g : Graph) → AreRising g.nodes.items → (a i : ℕ) (n : Node) → IsPlace g.nodes.items a i → StandsAt g a n → IsNodeAt g.nodes.items i n
place_stands g rising a i n place stands =
    let at = stands_node g a n stands in
    let other = subst (λ (x : ℕ). IsPlace g.nodes.items x at.0) stands.at (node_place g.nodes.items at.0 n at.1) in
    subst (λ (k : ℕ). IsNodeAt g.nodes.items k n) (one_place g.nodes.items rising a at.0 i other place) at.1

pub one_node : (g : Graph) → AreRising g.nodes.items → (a : ℕ) (m n : Node) → StandsAt g a m → StandsAt g a n → m ≡ n
one_node g rising a m n one other =
    let place = stands_place g a m one in
    node_is g.nodes.items place.0 m n (place_stands g rising a place.0 m place.1 one) (place_stands g rising a place.0 n place.1 other)
