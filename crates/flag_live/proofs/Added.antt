-- Edges that were added to edges.
use Rattle.std.proofs.Common.{◌≡◌, ℕ, zero, suc, ◌<◌, ◌+◌, List, [], ◌∷◌, ◌++◌, ◌⊎◌, Bool, true, false, Option, Some, None, length, get_or, refl, sym, ap, ◌∙◌, subst, arith, inl, inr}
use Rattle.std.specs.Prelude.{Contains, IfSome}
use Rattle.std.specs.Option.{option_to_list}
use Rattle.std.proofs.lemmas.Bool.{cases_lt}
use Rattle.std.proofs.lemmas.List.{get_or_default}
use Rattle.std.proofs.lemmas.List.Elements.{Contains-append_left, Contains-append_right, Contains-append_cases}
use Rattle.graph_nodes.specs.Graphs.{has_flag}
use Rattle.graph_nodes.specs.declared.nodes.Successor.{Successor}
use Rattle.graph_nodes.specs.declared.nodes.Node.{Node}
use Rattle.flag_live.specs.Vertices.{IsNodeAt, IsEdgeBy, IsEdgeAmong, at, IsEdgeOf, by_successor, by_exit, IsEdge, of, Adds}
use Rattle.graph_nodes.specs.Places.{AreRising}
use Rattle.flag_live.proofs.Located.{node_is}

pub in_none : {X : Type 0} (e : X) → Contains [] e → ⊥
in_none e has = (let w = has.1 in omega arith)

pub in_option : {X : Type 0} (o : Option X) (e : X) → Contains (option_to_list o) e → o ≡ Some e
in_option None e has = absurd (in_none e has)
in_option (Some x) e (zero, w, is) = ap Some is
in_option (Some x) e (suc k, w, is) = absurd (omega arith)

pub option_has : {X : Type 0} (o : Option X) (e : X) → o ≡ Some e → Contains (option_to_list o) e
option_has {X} o e is = subst (λ (x : Option X). Contains (option_to_list x) e) (sym is) (0, omega arith, refl)

if_some : (o : Option (ℕ × ℕ)) (Q : ℕ × ℕ → Type 0) (e : ℕ × ℕ) → o ≡ Some e → IfSome o Q → Q e
if_some o Q e is some = subst (λ (x : Option (ℕ × ℕ)). IfSome x Q) is some

-- one item more, or none
pub adds_item : (old new new' : List (ℕ × ℕ)) (S : Type 0) (P Q : ℕ × ℕ → Type 0) (o : Option (ℕ × ℕ)) → Adds old new S P → new' ≡ new ++ option_to_list o
    → ((e : ℕ × ℕ) → P e → Q e) → IfSome o Q → (S → (e : ℕ × ℕ) → Q e → P e ⊎ (o ≡ Some e)) → Adds old new' S Q
adds_item old new new' S P Q o is e up some down = subst (λ (x : List (ℕ × ℕ)). Adds old x S Q) (sym e) (record {
  kept = λ x has. Contains-append_left new (option_to_list o) x (is.kept x has);
  only = λ x has. elim (Contains-append_cases new (option_to_list o) x has) as (λ _. Contains old x ⊎ Q x) [
    | inl l ↦ elim (is.only x l) as (λ _. Contains old x ⊎ Q x) [ inl h ↦ inl h | inr h ↦ inr (up x h) ]
    | inr r ↦ inr (if_some o Q x (in_option o x r) some)
  ];
  all = λ sure x q. elim (down sure x q) as (λ _. Contains (new ++ option_to_list o) x) [
    | inl h ↦ Contains-append_left new (option_to_list o) x (is.all sure x h)
    | inr h ↦ Contains-append_right new (option_to_list o) x (option_has o x h)
  ];
})

-- the same items by another name
pub adds_same : (old new : List (ℕ × ℕ)) (S : Type 0) (P Q : ℕ × ℕ → Type 0) → Adds old new S P → ((e : ℕ × ℕ) → P e → Q e) → ((e : ℕ × ℕ) → Q e → P e) →
    Adds old new S Q
adds_same old new S P Q is up down = record {
  kept = is.kept;
  only = λ x has. elim (is.only x has) as (λ _. Contains old x ⊎ Q x) [ inl h ↦ inl h | inr h ↦ inr (up x h) ];
  all = λ sure x q. is.all sure x (down x q);
}

-- items after items
pub adds_both : (old mid new : List (ℕ × ℕ)) (S : Type 0) (P R Q : ℕ × ℕ → Type 0) → Adds old mid S P → Adds mid new S R
    → ((e : ℕ × ℕ) → P e → Q e) → ((e : ℕ × ℕ) → R e → Q e) → ((e : ℕ × ℕ) → Q e → P e ⊎ R e) → Adds old new S Q
adds_both old mid new S P R Q one two up over down = record {
  kept = λ x has. two.kept x (one.kept x has);
  only = λ x has. elim (two.only x has) as (λ _. Contains old x ⊎ Q x) [
    | inl h ↦ elim (one.only x h) as (λ _. Contains old x ⊎ Q x) [ inl g ↦ inl g | inr g ↦ inr (up x g) ]
    | inr h ↦ inr (over x h)
  ];
  all = λ sure x q. elim (down x q) as (λ _. Contains new x) [ inl h ↦ two.kept x (one.all sure x h) | inr h ↦ two.all sure x h ];
}

among_more : (nodes : List Node) (u : ℕ) (assigned : Bool) (successors : List Successor) (k : ℕ) (e : ℕ × ℕ) → IsEdgeAmong nodes u assigned successors k e →
    IsEdgeAmong nodes u assigned successors (k + 1) e
among_more nodes u assigned successors k e (at j low each) = at j (omega arith) each

among_here : (nodes : List Node) (u : ℕ) (assigned : Bool) (successors : List Successor) (k : ℕ) (d : Successor) → k < length successors → (e : ℕ × ℕ)
    → IsEdgeBy nodes u assigned (get_or successors k d) e → IsEdgeAmong nodes u assigned successors (k + 1) e
among_here nodes u assigned successors k d w e edge = at k (omega arith)
    (λ x. subst (λ (s : Successor). IsEdgeBy nodes u assigned s e) (get_or_default successors k d x w) edge)

among_last : (nodes : List Node) (u : ℕ) (assigned : Bool) (successors : List Successor) (k : ℕ) (d : Successor) (e : ℕ × ℕ) →
    IsEdgeAmong nodes u assigned successors (k + 1) e
    → IsEdgeAmong nodes u assigned successors k e ⊎ IsEdgeBy nodes u assigned (get_or successors k d) e
among_last nodes u assigned successors k d e (at j low each) =
    elim (cases_lt j k) as (λ _. IsEdgeAmong nodes u assigned successors k e ⊎ IsEdgeBy nodes u assigned (get_or successors k d) e) [
      | inl l ↦ inl (at j l each)
      | inr r ↦ (let same : j ≡ k = omega arith in inr (subst (λ (i : ℕ). IsEdgeBy nodes u assigned (get_or successors i d) e) same (each d)))
    ]

weaker_some : (o : Option (ℕ × ℕ)) (P Q : ℕ × ℕ → Type 0) → ((e : ℕ × ℕ) → P e → Q e) → IfSome o P → IfSome o Q
weaker_some None P Q up some = tt
weaker_some (Some e) P Q up some = up e some

-- one successor more
pub adds_successor : (nodes : List Node) (u : ℕ) (assigned : Bool) (successors : List Successor) (k : ℕ) (d : Successor) (old new new' : List (ℕ ×
    ℕ)) (o : Option (ℕ × ℕ)) → k < length successors
    → Adds old new (AreRising nodes) (IsEdgeAmong nodes u assigned successors k) → new' ≡ new ++ option_to_list o
    → IfSome o (IsEdgeBy nodes u assigned (get_or successors k d)) →
    (AreRising nodes → (e : ℕ × ℕ) → IsEdgeBy nodes u assigned (get_or successors k d) e → o ≡ Some e)
    → Adds old new' (AreRising nodes) (IsEdgeAmong nodes u assigned successors (k + 1))
adds_successor nodes u assigned successors k d old new new' o w is e some sure =
    adds_item old new new' (AreRising nodes) (IsEdgeAmong nodes u assigned successors k) (IsEdgeAmong nodes u assigned successors (k + 1)) o is e
    (among_more nodes u assigned successors k)
    (weaker_some o (IsEdgeBy nodes u assigned (get_or successors k d)) (IsEdgeAmong nodes u assigned successors (k + 1))
    (among_here nodes u assigned successors k d w) some)
    (λ rising x q. elim (among_last nodes u assigned successors k d x q) as
    (λ _. IsEdgeAmong nodes u assigned successors k x ⊎ (o ≡ Some x)) [ inl h ↦ inl h | inr h ↦ inr (sure rising x h) ])

pair_is : (x : ℕ × ℕ) (a b : ℕ) → x.0 ≡ a → x.1 ≡ b → (a, b) ≡ x
pair_is (y, z) a b e f = cc

among_edge : (nodes : List Node) (f u : ℕ) (n : Node) (assigned : Bool) (k : ℕ) → assigned ≡ has_flag n.flags.surely f → k ≡ length n.successors.items →
    (e : ℕ × ℕ)
    → IsEdgeAmong nodes u assigned n.successors.items k e → IsEdgeOf nodes f u n e
among_edge nodes f u n assigned k is full e among =
    by_successor (subst (λ (b : Bool). IsEdgeAmong nodes u b n.successors.items (length n.successors.items) e) is (subst
    (λ (i : ℕ). IsEdgeAmong nodes u assigned n.successors.items i e) full among))

edge_among : (nodes : List Node) (f u : ℕ) (n : Node) (assigned : Bool) (k : ℕ) → assigned ≡ has_flag n.flags.surely f → k ≡ length n.successors.items →
    (e : ℕ × ℕ)
    → IsEdgeOf nodes f u n e → IsEdgeAmong nodes u assigned n.successors.items k e ⊎ ((assigned ≡ false) × (n.returns ≡ true) × (e.0 ≡ length nodes) ×
    (e.1 ≡ u))
edge_among nodes f u n assigned k is full e (by_successor among) =
    inl (subst (λ (b : Bool). IsEdgeAmong nodes u b n.successors.items k e) (sym is) (subst
    (λ (i : ℕ). IsEdgeAmong nodes u (has_flag n.flags.surely f) n.successors.items i e) (sym full) among))
edge_among nodes f u n assigned k is full e (by_exit free back from to) = inr (is ∙ free, back, from, to)

-- the edges of a node that surely assigns the flag, of one that does not return, and of one that returns
pub node_assigned : (nodes : List Node) (f u : ℕ) (n : Node) (assigned : Bool) (k : ℕ) (old new : List (ℕ × ℕ)) → assigned ≡ has_flag n.flags.surely f →
    k ≡ length n.successors.items
    → (assigned ≡ false → n.returns ≡ true → ⊥)
    → Adds old new (AreRising nodes) (IsEdgeAmong nodes u assigned n.successors.items k) → Adds old new (AreRising nodes) (IsEdgeOf nodes f u n)
node_assigned nodes f u n assigned k old new is full never added =
    adds_same old new (AreRising nodes) (IsEdgeAmong nodes u assigned n.successors.items k) (IsEdgeOf nodes f u n) added
    (among_edge nodes f u n assigned k is full)
    (λ e edge. elim (edge_among nodes f u n assigned k is full e edge) as
    (λ _. IsEdgeAmong nodes u assigned n.successors.items k e) [ inl h ↦ h | inr h ↦ absurd (never h.0 h.1) ])

pub node_returns : (nodes : List Node) (f u : ℕ) (n : Node) (assigned : Bool) (k : ℕ) (old new new' : List (ℕ × ℕ)) → assigned ≡ has_flag n.flags.surely f →
    k ≡ length n.successors.items
    → assigned ≡ false → n.returns ≡ true → new' ≡ new ++ (length nodes, u) ∷ []
    → Adds old new (AreRising nodes) (IsEdgeAmong nodes u assigned n.successors.items k) → Adds old new' (AreRising nodes) (IsEdgeOf nodes f u n)
node_returns nodes f u n assigned k old new new' is full free back e added =
    adds_item old new new' (AreRising nodes) (IsEdgeAmong nodes u assigned n.successors.items k) (IsEdgeOf nodes f u n) (Some (length nodes, u)) added e
    (among_edge nodes f u n assigned k is full) (by_exit (sym is ∙ free) back refl refl)
    (λ sure x edge. elim (edge_among nodes f u n assigned k is full x edge) as
    (λ _. IsEdgeAmong nodes u assigned n.successors.items k x ⊎ (Some (length nodes, u) ≡ Some x)) [
      | inl h ↦ inl h
      | inr h ↦ inr (ap (λ (y : ℕ × ℕ). Some y) (pair_is x (length nodes) u h.2 h.3))
    ])

-- the edges by no node, and by one node more
pub edges_none : (nodes : List Node) (f : ℕ) (e : ℕ × ℕ) → IsEdge nodes f 0 e → ⊥
edges_none nodes f e (of u n low node edge) = omega arith

edges_up : (nodes : List Node) (f k : ℕ) (e : ℕ × ℕ) → IsEdge nodes f k e → IsEdge nodes f (k + 1) e
edges_up nodes f k e (of u n low node edge) = of u n (omega arith) node edge

edges_last : (nodes : List Node) (f k : ℕ) (m : Node) → IsNodeAt nodes k m → (e : ℕ × ℕ) → IsEdge nodes f (k + 1) e →
    IsEdge nodes f k e ⊎ IsEdgeOf nodes f k m e
edges_last nodes f k m here e (of u n low node edge) = elim (cases_lt u k) as (λ _. IsEdge nodes f k e ⊎ IsEdgeOf nodes f k m e) [
  | inl l ↦ inl (of u n l node edge)
  | inr r ↦
      let same : u ≡ k = omega arith in
      let node' = subst (λ (i : ℕ). IsNodeAt nodes i n) same node in
      inr (subst (λ (x : Node). IsEdgeOf nodes f k x e) (node_is nodes k n m node' here) (subst (λ (i : ℕ). IsEdgeOf nodes f i n e) same edge))
]

pub adds_node : (nodes : List Node) (f k : ℕ) (m : Node) (old mid new : List (ℕ × ℕ)) → IsNodeAt nodes k m
    → Adds old mid (AreRising nodes) (IsEdge nodes f k) → Adds mid new (AreRising nodes) (IsEdgeOf nodes f k m) →
    Adds old new (AreRising nodes) (IsEdge nodes f (k + 1))
adds_node nodes f k m old mid new here one two =
    adds_both old mid new (AreRising nodes) (IsEdge nodes f k) (IsEdgeOf nodes f k m) (IsEdge nodes f (k + 1)) one two
    (edges_up nodes f k) (λ e edge. of k m (omega arith) here edge) (edges_last nodes f k m here)
