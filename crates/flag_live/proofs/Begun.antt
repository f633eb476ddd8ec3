-- The places of nodes that read a flag themselves.
use Rattle.std.proofs.Common.{◌≡◌, ℕ, ◌+◌, List, [], ◌∷◌, ◌++◌, true, false, Option, Some, length, sym, ap, subst, arith, inl, inr}
use Rattle.std.specs.Prelude.{◌↔◌, Contains}
use Rattle.std.specs.Option.{option_to_list}
use Rattle.std.proofs.lemmas.Bool.{cases_lt, both_ways}
use Rattle.std.proofs.lemmas.List.Elements.{Contains-append_left, Contains-append_right, Contains-append_cases}
use Rattle.graph_nodes.specs.Graphs.{has_flag}
use Rattle.graph_nodes.specs.declared.nodes.Node.{Node}
use Rattle.graph_nodes.specs.declared.nodes.Graph.{Graph}
use Rattle.flag_live.specs.Vertices.{IsNodeAt, IsStartAt, IsStartBelow, IsStart, at_node, at_exit}
use Rattle.flag_live.proofs.Located.{node_is}
use Rattle.flag_live.proofs.Added.{in_option, option_has}

start_here : (nodes : List Node) (f k : ℕ) (m : Node) (v : ℕ) → IsNodeAt nodes k m → v ≡ k → IsStartAt f m → IsStartBelow nodes f (k + 1) v
start_here nodes f k m v here e starts = record {
  below = omega arith;
  reads = λ n at. subst (λ (x : Node). IsStartAt f x) (node_is nodes k m n here (subst (λ (i : ℕ). IsNodeAt nodes i n) e at)) starts;
}

pub starts_more : (nodes : List Node) (f k : ℕ) (m : Node) (old new : List ℕ) (o : Option ℕ) → IsNodeAt nodes k m → new ≡ old ++ option_to_list o
    → ((v : ℕ) → (o ≡ Some v) ↔ ((v ≡ k) × IsStartAt f m)) → ((v : ℕ) → Contains old v ↔ IsStartBelow nodes f k v)
    → (v : ℕ) → Contains new v ↔ IsStartBelow nodes f (k + 1) v
starts_more nodes f k m old new o here e item before v = subst (λ (x : List ℕ). Contains x v ↔ IsStartBelow nodes f (k + 1) v) (sym e) (
  λ has. elim (Contains-append_cases old (option_to_list o) v has) as (λ _. IsStartBelow nodes f (k + 1) v) [
    | inl h ↦ (let is = (before v).0 h in let low = is.below in record { below = omega arith; reads = is.reads })
    | inr h ↦ (let is = (item v).0 (in_option o v h) in start_here nodes f k m v here is.0 is.1)
  ],
  λ is. elim (cases_lt v k) as (λ _. Contains (old ++ option_to_list o) v) [
    | inl l ↦ Contains-append_left old (option_to_list o) v ((before v).1 (record { below = l; reads = is.reads }))
    | inr r ↦
        let low = is.below in
        let same : v ≡ k = omega arith in
        Contains-append_right old (option_to_list o) v (option_has o v ((item v).1 (same, is.reads m (subst (λ (i : ℕ). IsNodeAt nodes i m) (sym same) here))))
  ],
)

the_last : (a b : ℕ) → Some a ≡ Some b → a ≡ b
the_last a b e = cc

ensured_has : (g : Graph) (f k : ℕ) (old : List ℕ) → k ≡ length g.nodes.items
    → ((v : ℕ) → Contains old v ↔ IsStartBelow g.nodes.items f k v) → (v : ℕ) → IsStart g f v → Contains (old ++ length g.nodes.items ∷ []) v
ensured_has g f k old full before v (at_node is) =
    Contains-append_left old (length g.nodes.items ∷ []) v ((before v).1 (subst (λ (i : ℕ). IsStartBelow g.nodes.items f i v) (sym full) is))
ensured_has g f k old full before v (at_exit at ensured) = Contains-append_right old (length g.nodes.items
    ∷ []) v (option_has (Some (length g.nodes.items)) v (ap Some (sym at)))

pub starts_ensured : (g : Graph) (f k : ℕ) (old new : List ℕ) → k ≡ length g.nodes.items → has_flag g.ensured f ≡ true → new ≡ old ++ length g.nodes.items ∷ []
    → ((v : ℕ) → Contains old v ↔ IsStartBelow g.nodes.items f k v) → (v : ℕ) → Contains new v ↔ IsStart g f v
starts_ensured g f k old new full ensured e before v = subst (λ (x : List ℕ). Contains x v ↔ IsStart g f v) (sym e) (
  λ has. elim (Contains-append_cases old (length g.nodes.items ∷ []) v has) as (λ _. IsStart g f v) [
    | inl h ↦ at_node (subst (λ (i : ℕ). IsStartBelow g.nodes.items f i v) full ((before v).0 h))
    | inr h ↦ at_exit (sym (the_last (length g.nodes.items) v (in_option (Some (length g.nodes.items)) v h))) ensured
  ],
  λ is. ensured_has g f k old full before v is,
)

nodes_has : (g : Graph) (f k : ℕ) (old : List ℕ) → k ≡ length g.nodes.items → has_flag g.ensured f ≡ false
    → ((v : ℕ) → Contains old v ↔ IsStartBelow g.nodes.items f k v) → (v : ℕ) → IsStart g f v → Contains old v
nodes_has g f k old full without before v (at_node is) = (before v).1 (subst (λ (i : ℕ). IsStartBelow g.nodes.items f i v) (sym full) is)
nodes_has g f k old full without before v (at_exit at ensured) = absurd (both_ways _ without ensured)

pub starts_only : (g : Graph) (f k : ℕ) (old : List ℕ) → k ≡ length g.nodes.items → has_flag g.ensured f ≡ false
    → ((v : ℕ) → Contains old v ↔ IsStartBelow g.nodes.items f k v) → (v : ℕ) → Contains old v ↔ IsStart g f v
starts_only g f k old full without before v = (
  λ has. at_node (subst (λ (i : ℕ). IsStartBelow g.nodes.items f i v) full ((before v).0 has)),
  nodes_has g f k old full without before v,
)
