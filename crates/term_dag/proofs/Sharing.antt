-- A list of nodes in which a node has been looked up or added.
use Rattle.std.proofs.Common.{inl, inr, ◌⊎◌, ◌≡◌, ℕ, zero, suc, ◌<◌, List, [], ◌∷◌, ◌++◌, length, slice_get, Some, Bool, true, false, refl, ap, sym, ◌∙◌, subst, arith, true≢false, append-nil, bit_and}
use Rattle.std.specs.Prelude.{if◌then◌else◌}
use Rattle.std.specs.List.{Contains, IsDistinct, AllByRecursion}
use Rattle.std.proofs.lemmas.List.Elements.{Contains-push_cases}
use Rattle.std.proofs.lemmas.List.Sums.{sum_by-append}
use Rattle.std.proofs.lemmas.Nat.{and_comm}
use Rattle.machine_spec.specs.Bil.{And}
use Rattle.term_spec.specs.Terms.{TermReading, TermNode, ConstantNode, BinaryNode, NotNode, word_value, term_word, node_value, values_from, term_value, width_of, node_at, HasWidth, IsTypedOver, AreTyped, value_at, own_gates, own_loads, own_stores, own_joins}
use Rattle.term_dag.specs.declared.nodes.Node.{Node}
use Rattle.term_dag.specs.declared.nodes.Term.{Term}
use Rattle.bil_ast.specs.declared.names.BinaryOp.{BinaryOp}
use Rattle.term_dag.specs.declared.folds.Folded.TheVariants.{Old, New, Onto, Unless}
use Rattle.bil_ast.specs.Views.{binary_of}
use Rattle.term_dag.specs.Nodes.{IsInput, node_of, nodes_of}
use Rattle.term_dag.specs.Made.{Extends, IsWithinCost, IsMade, AreDistinct, IsInterned}
use Rattle.term_dag.specs.Folds.{IsFold}
use Rattle.term_dag.proofs.ListLaws.{keeps, keeps_node, typed_push, by_node, same, has_width_more, longer}
use Rattle.term_dag.proofs.Growth.{both_extend}

nodes_append : (ns ms : List Node) → nodes_of (ns ++ ms) ≡ nodes_of ns ++ nodes_of ms
nodes_append [] ms = refl
nodes_append (n ∷ ns) ms = ap (λ l. node_of n ∷ l) (nodes_append ns ms)

-- the list that is left where a node is there, and the longer one where it is not
looked_up : (b : Bool) (old new : List Node) (n : Node) → new ≡ (if b then old else old ++ n ∷ []) →
    (nodes_of new ≡ nodes_of old) ⊎ (nodes_of new ≡ nodes_of old ++ node_of n ∷ [])
looked_up true old new n e = inl (ap nodes_of e)
looked_up false old new n e = inr (ap nodes_of e ∙ nodes_append old (n ∷ []))

at_place : (ns : List Node) (i : ℕ) (n : Node) → slice_get ns i ≡ Some n → node_at (nodes_of ns) i ≡ node_of n
at_place [] i n h = cc
at_place (x ∷ xs) zero n h = let e : x ≡ n = cc in ap node_of e
at_place (x ∷ xs) (suc i) n h = at_place xs i n h

within : (ns : List Node) (i : ℕ) (n : Node) → slice_get ns i ≡ Some n → i < length (nodes_of ns)
within [] i n h = cc
within (x ∷ xs) zero n h = omega arith
within (x ∷ xs) (suc i) n h = omega (arith, within xs i n h)

no_more : (ns : List TermNode) (n : TermNode) → IsWithinCost ns ns n
no_more ns n = record { gates = omega arith; loads = omega arith; stores = omega arith; joins = omega arith }

one_more : (ns : List TermNode) (n : TermNode) → IsWithinCost ns (ns ++ n ∷ []) n
one_more ns n = record {
  gates = omega (arith, sum_by-append own_gates ns (n ∷ []));
  loads = omega (arith, sum_by-append own_loads ns (n ∷ []));
  stores = omega (arith, sum_by-append own_stores ns (n ∷ []));
  joins = omega (arith, sum_by-append own_joins ns (n ∷ []));
}

pub typed_new : (b : Bool) (old new : List Node) (n : Node) → new ≡ (if b then old else old ++ n ∷ []) → AreTyped (nodes_of old) →
    IsTypedOver (nodes_of old) (node_of n) → AreTyped (nodes_of new)
typed_new b old new n e h t =
    elim (looked_up b old new n e) [
      | inl q ↦ subst AreTyped (sym q) h
      | inr q ↦ subst AreTyped (sym q) (typed_push (nodes_of old) (node_of n) h t)
    ]

-- what an extension keeps
pub kept_values : (old new : List TermNode) → Extends old new → (x : TermReading) (i : ℕ) → i < length old → term_value x new i ≡ term_value x old i
kept_values old new e x i l = ap (λ ns. term_value x ns i) e.1 ∙ keeps x old e.0 i l

pub kept_nodes : (old new : List TermNode) → Extends old new → (i : ℕ) → i < length old → node_at new i ≡ node_at old i
kept_nodes old new e i l = ap (λ ns. node_at ns i) e.1 ∙ keeps_node old e.0 i l

pub kept_width : (old new : List TermNode) → Extends old new → (w t : ℕ) → HasWidth old w t → HasWidth new w t
kept_width old new e w t h = subst (λ (ns : List TermNode). HasWidth ns w t) (sym e.1) (has_width_more old e.0 w t h)

-- a node that is held has its value over the old terms
held_value : (old new : List TermNode) (n : TermNode) (t : ℕ) → Extends old new → AreTyped new → t < length new → node_at new t ≡ n → IsTypedOver old n →
    (x : TermReading) →
    term_value x new t ≡ node_value x (values_from x [] old) n
held_value old new n t e h l s o x =
    by_node x new t n h l (sym s)
    ∙ same x (values_from x [] new) (values_from x [] old) old n o (λ i k. kept_values old new e x i k)

one_more_holds : (ns : List TermNode) (n m : TermNode) → Contains (ns ++ n ∷ []) m → Contains ns m ⊎ (m ≡ n)
one_more_holds ns n m h = elim (Contains-push_cases ns n m h) [ inl k ↦ inl k | inr e ↦ inr (sym e) ]

-- the place that a node has got
pub interned : (b : Bool) (old new : List Node) (n : Node) (t : ℕ) → new ≡ (if b then old else old ++ n ∷ []) → AreTyped (nodes_of old) →
    IsTypedOver (nodes_of old) (node_of n) →
    slice_get new t ≡ Some n → IsInterned (nodes_of old) (nodes_of new) (node_of n) t
interned b old new n t e h o s = record {
  extends = longer_or_same;
  keeps = kept_values (nodes_of old) (nodes_of new) longer_or_same;
  widths = λ i l. ap width_of (kept_nodes (nodes_of old) (nodes_of new) longer_or_same i l);
  typed = typed_new b old new n e h o;
  within = within new t n s;
  stored = at_place new t n s;
  value = held_value (nodes_of old) (nodes_of new) (node_of n) t longer_or_same (typed_new b old new n e h o) (within new t n s) (at_place new t n s) o;
  few = elim (looked_up b old new n e) [ inl q ↦ omega (arith, ap length q) | inr q ↦ omega (arith, ap length q, longer (nodes_of old) (node_of n)) ];
  cost = elim (looked_up b old new n e) [
    | inl q ↦ subst (λ (l : List TermNode). IsWithinCost (nodes_of old) l (node_of n)) (sym q) (no_more (nodes_of old) (node_of n))
    | inr q ↦ subst (λ (l : List TermNode). IsWithinCost (nodes_of old) l (node_of n)) (sym q) (one_more (nodes_of old) (node_of n))
  ];
  only = λ m k. elim (looked_up b old new n e) [
    | inl q ↦ inl (subst (λ (l : List TermNode). Contains l m) q k)
    | inr q ↦ one_more_holds (nodes_of old) (node_of n) m (subst (λ (l : List TermNode). Contains l m) q k)
  ];
}
  where
    longer_or_same : Extends (nodes_of old) (nodes_of new)
    longer_or_same = elim (looked_up b old new n e) [ inl q ↦ ([], q ∙ sym (append-nil (nodes_of old))) | inr q ↦ (node_of n ∷ [], q) ]

-- a term that was there
pub made_old : (ns : List TermNode) (n : TermNode) (t : _) → AreTyped ns → IsFold ns n (Old t) → IsMade ns ns n t.0
made_old ns n t h f = record {
  extends = ([], sym (append-nil ns));
  keeps = λ x i l. refl;
  widths = λ i l. refl;
  within = f.within;
  width = f.width;
  value = f.value;
  few = omega arith;
  cost = no_more ns n;
  typed = h;
  named = λ m k i. inl k;
  words = λ w m k. inl k;
}

-- a node that was looked up or added
pub made_new : (old new : List TermNode) (n : TermNode) (m : Node) (t : ℕ) → IsFold old n (New m) → IsInterned old new (node_of m) t → IsMade old new n t
made_new old new n m t f k = record {
  extends = k.extends;
  keeps = k.keeps;
  widths = k.widths;
  within = k.within;
  width = ap width_of k.stored ∙ f.width;
  value = λ x g. k.value x ∙ f.value x g;
  few = omega (arith, k.few);
  cost = record {
    gates = omega (arith, k.cost.gates, f.gates);
    loads = omega (arith, k.cost.loads, f.loads);
    stores = omega (arith, k.cost.stores, f.stores);
    joins = omega (arith, k.cost.joins, f.joins);
  };
  typed = k.typed;
  named = λ p q i. elim (k.only p q) [ inl c ↦ inl c | inr e ↦ inr (e ∙ f.named (subst IsInput e i)) ];
  words = λ w p q. elim (k.only p q) [ inl c ↦ inl c | inr e ↦ inr (omega (arith, w, f.width, ap width_of e)) ];
}

-- the operator between a term and a constant is typed over the list that has the constant
pub onto_typed : (old mid : List TermNode) (n : TermNode) (o : BinaryOp) (w c : ℕ) (t : _) (k : ℕ) → IsFold old n (Onto o w t c) →
    IsInterned old mid (ConstantNode w c) k →
    IsTypedOver mid (BinaryNode (binary_of o) w t.0 k)
onto_typed old mid n o w c t k f i = (f.some, kept_width old mid i.extends w t.0 f.first, (i.within, ap width_of i.stored))

-- that operator
pub made_onto : (old mid new : List TermNode) (n : TermNode) (o : BinaryOp) (w c : ℕ) (t : _) (k r : ℕ) → IsFold old n (Onto o w t c) →
    IsInterned old mid (ConstantNode w c) k →
    IsInterned mid new (BinaryNode (binary_of o) w t.0 k) r → IsMade old new n r
made_onto old mid new n o w c t k r f i j =
    let e = both_extend old mid new i.extends j.extends in
    record {
      extends = e;
      keeps = kept_values old new e;
      widths = λ a l. ap width_of (kept_nodes old new e a l);
      within = j.within;
      width = ap width_of j.stored ∙ f.width;
      value = λ x g.
          j.value x
          ∙ ap (λ (z : _). node_value x (z ∷ value_at (values_from x [] mid) k ∷ []) (BinaryNode (binary_of o) w 0 1)) (i.keeps x t.0 f.first.0)
          ∙ ap (λ (z : _). node_value x (term_value x old t.0 ∷ z ∷ []) (BinaryNode (binary_of o) w 0 1)) (i.value x)
          ∙ f.value x g;
      few = omega (arith, i.few, j.few);
      cost = record {
        gates = omega (arith, i.cost.gates, j.cost.gates, f.gates);
        loads = omega (arith, i.cost.loads, j.cost.loads);
        stores = omega (arith, i.cost.stores, j.cost.stores);
        joins = omega (arith, i.cost.joins, j.cost.joins);
      };
      typed = j.typed;
      named = λ m p q. elim (j.only m p) [
        | inl a ↦ elim (i.only m a) [ inl b ↦ inl b | inr z ↦ absurd (subst IsInput z q) ]
        | inr z ↦ absurd (subst IsInput z q)
      ];
      words = λ l m p. elim (j.only m p) [
        | inl a ↦ elim (i.only m a) [ inl b ↦ inl b | inr z ↦ inr (omega (arith, ap width_of z, f.some.0)) ]
        | inr z ↦ inr (omega (arith, ap width_of z, f.width, l))
      ];
    }

-- the operands of that `and` stand in either order
conjoined : (x : TermReading) (ns : List TermNode) (a b : ℕ) (t p q : Term) → ((p.0 ≡ a) × (q ≡ t)) ⊎ ((p ≡ t) × (q.0 ≡ a)) → t.0 ≡ b →
    bit_and (term_word x ns p.0) (term_word x ns q.0) ≡ bit_and (term_word x ns a) (term_word x ns b)
conjoined x ns a b t p q (inl (e, f)) g = ap (λ z. bit_and (term_word x ns z) (term_word x ns q.0)) e ∙ ap
    (λ z. bit_and (term_word x ns a) (term_word x ns z)) (ap (λ z. z.0) f ∙ g)
conjoined x ns a b t p q (inr (e, f)) g =
    ap (λ z. bit_and (term_word x ns z) (term_word x ns q.0)) (ap (λ z. z.0) e ∙ g) ∙ ap
    (λ z. bit_and (term_word x ns b) (term_word x ns z)) f ∙ and_comm (term_word x ns b) (term_word x ns a)

-- a bit `and` the negation of another
pub made_unless : (old mid new : List TermNode) (n : TermNode) (a b k p q : Term) (r : ℕ) → IsFold old n (Unless a b) → IsInterned old mid (NotNode 1 b.0) k.0 →
    ((p ≡ a) × (q ≡ k)) ⊎ ((p ≡ k) × (q ≡ a)) → IsInterned mid new (BinaryNode And 1 p.0 q.0) r → IsMade old new n r
made_unless old mid new n a b k p q r f i o j =
    let e = both_extend old mid new i.extends j.extends in
    record {
      extends = e;
      keeps = kept_values old new e;
      widths = λ t l. ap width_of (kept_nodes old new e t l);
      within = j.within;
      width = ap width_of j.stored ∙ f.width;
      value = λ x g.
          j.value x ∙ ap word_value (
          conjoined x mid a.0 k.0 k p q (elim o [ inl z ↦ inl (ap (λ t. t.0) z.0, z.1) | inr z ↦ inr (z.0, ap (λ t. t.0) z.1) ]) refl
          ∙ ap (λ z. bit_and z.word (term_word x mid k.0)) (i.keeps x a.0 f.first.0) ∙ ap (λ z. bit_and (term_word x old a.0) z.word) (i.value x))
          ∙ f.value x g;
      few = omega (arith, i.few, j.few);
      cost = record {
        gates = omega (arith, i.cost.gates, j.cost.gates, f.gates);
        loads = omega (arith, i.cost.loads, j.cost.loads);
        stores = omega (arith, i.cost.stores, j.cost.stores);
        joins = omega (arith, i.cost.joins, j.cost.joins);
      };
      typed = j.typed;
      named = λ m c d. elim (j.only m c) [
        | inl u ↦ elim (i.only m u) [ inl v ↦ inl v | inr z ↦ absurd (subst IsInput z d) ]
        | inr z ↦ absurd (subst IsInput z d)
      ];
      words = λ l m c. elim (j.only m c) [
        | inl u ↦ elim (i.only m u) [ inl v ↦ inl v | inr z ↦ inr (omega (arith, ap width_of z)) ]
        | inr z ↦ inr (omega (arith, ap width_of z))
      ];
    }

module _ (eq : Node → Node → Bool) (itself : (x y : Node) → node_of x ≡ node_of y → eq x y ≡ true) where
  apart : (x : Node) (xs : List Node) (j : ℕ) → AllByRecursion (λ y. eq x y ≡ false) xs → j < length (nodes_of xs) →
      Some (node_of x) ≡ slice_get (nodes_of xs) j → ⊥
  apart x [] j d h e = absurd (omega arith)
  apart x (y ∷ ys) zero d h e = let p : node_of x ≡ node_of y = cc in true≢false (sym (itself x y p) ∙ d.0)
  apart x (y ∷ ys) (suc j) d h e = apart x ys j d.1 (omega arith) e

  pub distinct : (ns : List Node) → IsDistinct eq ns → AreDistinct (nodes_of ns)
  unfolding IsDistinct
  distinct [] d i j l h e = absurd (omega arith)
  distinct (x ∷ xs) d zero zero l h e = absurd (omega arith)
  distinct (x ∷ xs) d zero (suc j) l h e = apart x xs j d.0 (omega arith) e
  distinct (x ∷ xs) d (suc i) zero l h e = absurd (omega arith)
  distinct (x ∷ xs) d (suc i) (suc j) l h e = distinct xs d.1 i j (omega arith) (omega arith) e

-- the two kinds of made terms over a view of the list
pub made_by_node : (old view new : List TermNode) (n : TermNode) (m : Node) (t : ℕ) → view ≡ old → IsFold view n (New m) → IsInterned old new (node_of m) t →
    IsMade old new n t
made_by_node old view new n m t e f k = made_new old new n m t (subst (λ (ns : List TermNode). IsFold ns n (New m)) e f) k

pub made_by_onto : (old view mid new : List TermNode) (n : TermNode) (o : BinaryOp) (w c : ℕ) (t : _) (k r : ℕ) → view ≡ old → IsFold view n (Onto o w t c) →
    IsInterned old mid (ConstantNode w c) k → IsInterned mid new (BinaryNode (binary_of o) w t.0 k) r → IsMade old new n r
made_by_onto old view mid new n o w c t k r e f i j = made_onto old mid new n o w c t k r (subst (λ (ns : List TermNode). IsFold ns n (Onto o w t c)) e f) i j

pub made_by_unless : (old view mid new : List TermNode) (n : TermNode) (a b k p q : Term) (r : ℕ) → view ≡ old → IsFold view n (Unless a b) →
    IsInterned old mid (NotNode 1 b.0) k.0 →
    ((p ≡ a) × (q ≡ k)) ⊎ ((p ≡ k) × (q ≡ a)) → IsInterned mid new (BinaryNode And 1 p.0 q.0) r → IsMade old new n r
made_by_unless old view mid new n a b k p q r e f i o j = made_unless old mid new n a b k p q r (subst
    (λ (ns : List TermNode). IsFold ns n (Unless a b)) e f) i o j
