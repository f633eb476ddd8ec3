-- Costs and stores of one step after another.
use Rattle.std.proofs.Common.{◌≡◌, ℕ, ◌+◌, ◌≤◌, List, [], ◌∷◌, ◌++◌, sym, ap, ◌∙◌, subst, arith, inl, inr, append-nil, append_assoc}
use Rattle.std.specs.Prelude.{◌↔◌, Contains}
use Rattle.std.proofs.lemmas.List.Elements.{Contains-append_left, Contains-append_right, Contains-append_cases}
use Rattle.std.proofs.lemmas.List.Sums.{sum_by-append}
use Rattle.word_spec.specs.Memory.{span}
use Rattle.machine_spec.specs.BilMeaning.{Env}
use Rattle.term_spec.specs.Terms.{TermReading, InRange, TermNode, ChoiceNode, HasWidth, term_word, own_gates, own_loads, own_stores, own_joins}
use Rattle.term_dag.specs.Nodes.{IsInput}
use Rattle.term_dag.specs.Made.{Grew, InputsFrom, IsMade}
use Rattle.term_dag.proofs.Growth.{grew_none, grew_on, grew_more, grew_width, made_grew, inputs_none, inputs_on, inputs_more, made_inputs}
use Rattle.term_names.specs.declared.names.Names.{Names}
use Rattle.bil_terms.specs.declared.stored.Stored.{Stored}
use Rattle.bil_terms.specs.declared.variables.LocalTerm.{LocalTerm}
use Rattle.bil_terms.specs.Naming.{IsScope, Holds}
use Rattle.bil_terms.specs.Gathered.{Cost, no_cost, both_cost, IsStore, IsAmong, Gathered}
use Rattle.bil_terms.proofs.Scopes.{contains_head, contains_none, contains_one, word_kept, holds_kept}

-- nothing is stored
abbrev pub nothing : ℕ → Env → List ℕ
nothing c v = []

-- the inputs of a cost
abbrev pub Draws : (place unknowns : ℕ) → TermNode → Type 0
Draws place u m = (m ≡ ChoiceNode place) × (1 ≤ u)

pub gathered_none : (ns : List TermNode) (n : Names) (ls : List LocalTerm) (place live : ℕ) (so : List Stored) →
    Gathered ns ns n ls place live so so no_cost nothing
gathered_none ns n ls place live so = record {
  grew = grew_none ns;
  inputs = inputs_none ns (Draws place 0);
  more = [];
  behind = sym (append-nil so);
  stores = λ s c. absurd (contains_none s c);
  bytes = omega arith;
  stored = λ x g v h a. (λ c. absurd (contains_none a c), λ c. absurd (contains_none c.0 c.1));
}

-- what is among stays so as nodes are added
pub among_kept : (old new : List TermNode) (g l s j n : ℕ) (x : TermReading) (more : List Stored) (a : ℕ) → Grew old new g l s j n →
    ((s : Stored) → Contains more s → HasWidth old 32 s.address.0) →
    IsAmong old x more a ↔ IsAmong new x more a
among_kept old new g l s j n x more a p h = (
  λ c. (c.0, c.1, subst (λ (z : ℕ). Contains (span z c.0.bytes) a) (sym (word_kept old new g l s j n c.0.address.0 x p (h c.0 c.1).0)) c.2),
  λ c. (c.0, c.1, subst (λ (z : ℕ). Contains (span z c.0.bytes) a) (word_kept old new g l s j n c.0.address.0 x p (h c.0 c.1).0) c.2),
)

pub store_kept : (old new : List TermNode) (g l s j n : ℕ) (t : Stored) → Grew old new g l s j n → IsStore old t → IsStore new t
store_kept old new g l s j n t p h = record {
  guard = grew_width old new g l s j n 1 _ p h.guard;
  address = grew_width old new g l s j n 32 _ p h.address;
  some = h.some;
  few = h.few;
}

among_both : (ns : List TermNode) (x : TermReading) (xs ys : List Stored) (a : ℕ) (ps qs : List ℕ) → Contains ps a ↔ IsAmong ns x xs a → Contains qs a ↔
    IsAmong ns x ys a →
    Contains (ps ++ qs) a ↔ IsAmong ns x (xs ++ ys) a
among_both ns x xs ys a ps qs p q = (
  λ c. elim (Contains-append_cases ps qs a c) [
    | inl k ↦ (let z = p.0 k in (z.0, Contains-append_left xs ys z.0 z.1, z.2))
    | inr k ↦ (let z = q.0 k in (z.0, Contains-append_right xs ys z.0 z.1, z.2))
  ],
  λ c. elim (Contains-append_cases xs ys c.0 c.1) [
    | inl k ↦ Contains-append_left ps qs a (p.1 (c.0, k, c.2))
    | inr k ↦ Contains-append_right ps qs a (q.1 (c.0, k, c.2))
  ],
)

-- one step after another
pub gathered_on : (d0 d1 d2 : List TermNode) (n : Names) (ls : List LocalTerm) (place live : ℕ) (s0 s1 s2 : List Stored) (c e : Cost) (st su : ℕ → Env →
    List ℕ) → IsScope d0 n ls live →
    Gathered d0 d1 n ls place live s0 s1 c st → Gathered d1 d2 n ls place live s1 s2 e su →
    Gathered d0 d2 n ls place live s0 s2 (both_cost c e) (λ i v. st i v ++ su i v)
gathered_on d0 d1 d2 n ls place live s0 s1 s2 c e st su sc p q = record {
  grew = grew_on d0 d1 d2 _ _ _ _ _ _ _ _ _ _ p.grew q.grew;
  inputs = inputs_on d0 d1 d2 (Draws place (c.unknowns + e.unknowns))
      (inputs_more d0 d1 (Draws place c.unknowns) (Draws place (c.unknowns + e.unknowns)) (λ m i k. (k.0, omega (arith, k.1))) p.inputs)
      (inputs_more d1 d2 (Draws place e.unknowns) (Draws place (c.unknowns + e.unknowns)) (λ m i k. (k.0, omega (arith, k.1))) q.inputs);
  more = p.more ++ q.more;
  behind = q.behind ∙ ap (λ z. z ++ q.more) p.behind ∙ append_assoc s0 p.more q.more;
  stores = λ s k. elim (Contains-append_cases p.more q.more s k) [
    | inl i ↦ (store_kept d1 d2 _ _ _ _ _ s q.grew (p.stores s i).0, (p.stores s i).1)
    | inr i ↦ q.stores s i
  ];
  bytes = omega (arith, p.bytes, q.bytes, sum_by-append (λ (s : Stored). s.bytes) p.more q.more);
  stored = λ x g v h a. among_both d2 x p.more q.more a (st (x.choice place) v) (su (x.choice place) v)
      (let k = among_kept d1 d2 _ _ _ _ _ x p.more a q.grew (λ s i. (p.stores s i).0.address) in
      let f = p.stored x g v h a in (λ i. k.0 (f.0 i), λ i. f.1 (k.1 i)))
      (q.stored x g v (holds_kept d0 d1 _ _ _ _ _ n ls live x v p.grew sc h) a);
}

-- the cost is within another, and the same bytes are stored
pub gathered_as : (d0 d1 : List TermNode) (n : Names) (ls : List LocalTerm) (place live : ℕ) (s0 s1 : List Stored) (c e : Cost) (st su : ℕ → Env → List ℕ) →
    c.gates ≤ e.gates → c.loads ≤ e.loads → c.stores ≤ e.stores → c.nodes ≤ e.nodes → c.unknowns ≤ e.unknowns →
    ((x : TermReading) → InRange x → (v : Env) → Holds d0 x n ls v → st (x.choice place) v ≡ su (x.choice place) v) →
    Gathered d0 d1 n ls place live s0 s1 c st → Gathered d0 d1 n ls place live s0 s1 e su
gathered_as d0 d1 n ls place live s0 s1 c e st su hg hl hs hn hu f p = record {
  grew = grew_more d0 d1 _ _ _ _ _ _ _ _ _ _ hg hl hs (omega arith) hn p.grew;
  inputs = inputs_more d0 d1 (Draws place c.unknowns) (Draws place e.unknowns) (λ m i k. (k.0, omega (arith, k.1, hu))) p.inputs;
  more = p.more;
  behind = p.behind;
  stores = p.stores;
  bytes = omega (arith, p.bytes, hs);
  stored = λ x g v h a. subst (λ (z : List ℕ). Contains z a ↔ IsAmong d1 x p.more a) (f x g v h) (p.stored x g v h a);
}

-- nodes that cost so much, without a store
pub gathered_grew : (d0 d1 : List TermNode) (n : Names) (ls : List LocalTerm) (place live : ℕ) (so : List Stored) (g l s k u : ℕ) → Grew d0 d1 g l s 0 k →
    InputsFrom d0 d1 (Draws place u) →
    Gathered d0 d1 n ls place live so so (record { gates = g; loads = l; stores = s; nodes = k; unknowns = u }) nothing
gathered_grew d0 d1 n ls place live so g l s k u p i = record {
  grew = p;
  inputs = i;
  more = [];
  behind = sym (append-nil so);
  stores = λ s c. absurd (contains_none s c);
  bytes = omega arith;
  stored = λ x g v h a. (λ c. absurd (contains_none a c), λ c. absurd (contains_none c.0 c.1));
}

-- a node that is no input and no join
pub gathered_made : (d0 d1 : List TermNode) (n : Names) (ls : List LocalTerm) (place live : ℕ) (so : List Stored) (m : TermNode) (t g l s : ℕ) →
    IsMade d0 d1 m t → (IsInput m → ⊥) →
    own_gates m ≡ g → own_loads m ≡ l → own_stores m ≡ s → own_joins m ≡ 0 →
    Gathered d0 d1 n ls place live so so (record { gates = g; loads = l; stores = s; nodes = 2; unknowns = 0 }) nothing
gathered_made d0 d1 n ls place live so m t g l s k i hg hl hs hj =
    gathered_grew d0 d1 n ls place live so g l s 2 0
    (grew_more d0 d1 _ _ _ _ _ _ _ _ _ _ (omega arith) (omega arith) (omega arith) (omega arith) (omega arith) (made_grew d0 d1 m t k))
    (made_inputs d0 d1 m t (Draws place 0) k (λ j. absurd (i j)))

-- a store under the guard, of a memory at an address
pub gathered_store : (d0 d1 : List TermNode) (n : Names) (ls : List LocalTerm) (place live : ℕ) (so sn : List Stored) (m : TermNode) (s : Stored) (t k : ℕ)
    (st : ℕ → Env → List ℕ) →
    IsMade d0 d1 m t → (IsInput m → ⊥) → own_gates m ≡ 0 → own_loads m ≡ 0 → own_stores m ≡ k → own_joins m ≡ 0 → sn ≡ so ++ s ∷ [] → IsStore d1 s →
    s.guard.0 ≡ live → s.bytes ≡ k →
    ((x : TermReading) → InRange x → (v : Env) → Holds d0 x n ls v → st (x.choice place) v ≡ span (term_word x d1 s.address.0) s.bytes) →
    Gathered d0 d1 n ls place live so sn (record { gates = 0; loads = 0; stores = k; nodes = 2; unknowns = 0 }) st
gathered_store d0 d1 n ls place live so sn m s t k st p i hg hl hs hj e h q w f = record {
  grew = grew_more d0 d1 _ _ _ _ _ _ _ _ _ _ (omega arith) (omega arith) (omega arith) (omega arith) (omega arith) (made_grew d0 d1 m t p);
  inputs = made_inputs d0 d1 m t (Draws place 0) p (λ j. absurd (i j));
  more = s ∷ [];
  behind = e;
  stores = λ z c. subst (λ (y : Stored). IsStore d1 y × (y.guard.0 ≡ live)) (contains_one s z c) (h, q);
  bytes = omega arith;
  stored = λ x g v l a. (
    λ c. (s, contains_head s [], subst (λ (z : List ℕ). Contains z a) (f x g v l) c),
    λ c. subst (λ (z : List ℕ). Contains z a) (sym (f x g v l))
        (subst (λ (y : Stored). Contains (span (term_word x d1 y.address.0) y.bytes) a) (sym (contains_one s c.0 c.1)) c.2),
  );
}

-- a step without a store
pub gathered_then : (d0 d1 d2 : List TermNode) (n : Names) (ls : List LocalTerm) (place live : ℕ) (s0 s1 : List Stored) (c e : Cost) (st : ℕ → Env → List ℕ) →
    IsScope d0 n ls live →
    Gathered d0 d1 n ls place live s0 s1 c st → Gathered d1 d2 n ls place live s1 s1 e nothing → Gathered d0 d2 n ls place live s0 s1 (both_cost c e) st
gathered_then d0 d1 d2 n ls place live s0 s1 c e st sc p q =
    gathered_as d0 d2 n ls place live s0 s1 (both_cost c e) (both_cost c e)
    (λ i v. st i v ++ []) st (omega arith) (omega arith) (omega arith) (omega arith) (omega arith)
    (λ x g v h. append-nil (st (x.choice place) v)) (gathered_on d0 d1 d2 n ls place live s0 s1 s1 c e st nothing sc p q)
