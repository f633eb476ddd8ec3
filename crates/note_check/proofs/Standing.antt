-- The addresses that a graph has.
use Rattle.std.proofs.Common.{◌≡◌, ℕ, ◌∙◌, arith, true, false, inl, inr}
use Rattle.std.specs.Cmp.{nat_eq_equiv}
use Rattle.std.proofs.lemmas.Bool.{eqb-true, cases_Bool}
use Rattle.std.proofs.lemmas.List.{length-map, get_or_default}
use Rattle.std.proofs.lemmas.Map.Views.{list_any-from_Contains, Contains-from_any}
use Rattle.graph_nodes.specs.Places.{ats, IsPlace}
use Rattle.graph_nodes.specs.declared.nodes.Graph.{Graph}
use Rattle.graph_nodes.specs.declared.nodes.Node.{Node}
use Rattle.note_check.specs.Reached.{stands_in}

pub stands : (g : Graph) (a i : ℕ) → IsPlace g.nodes.items a i → stands_in g a ≡ true
stands g a i is =
    let within = is.within in
    let size = length-map g.nodes.items (λ (n : Node). n.at) in
    list_any-from_Contains nat_eq_equiv a (ats g.nodes.items) (i, omega arith, get_or_default (ats g.nodes.items) i a 0 (omega arith) ∙ is.is)

pub absent : (g : Graph) (a : ℕ) → ((i : ℕ) → ¬ IsPlace g.nodes.items a i) → stands_in g a ≡ false
absent g a none = elim (cases_Bool (stands_in g a)) as (λ _. stands_in g a ≡ false) [
  | inl t ↦
      (let q = Contains-from_any (λ x y e. eqb-true x y e) a (ats g.nodes.items) t in
      let w = q.1 in
      let size = length-map g.nodes.items (λ (n : Node). n.at) in
      absurd (none q.0 (record { within = omega arith; is = get_or_default (ats g.nodes.items) q.0 0 a (omega arith) ∙ q.2 })))
  | inr f ↦ f
]
