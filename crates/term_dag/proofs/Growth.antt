-- Lists of nodes that grow step by step.
use Rattle.std.proofs.Common.{inl, inr, ◌≡◌, ℕ, ◌+◌, ◌<◌, ◌≤◌, List, [], length, refl, ap, sym, ◌∙◌, subst, arith, append-nil, append_assoc, ◌++◌, length-append}
use Rattle.term_spec.specs.Terms.{TermNode, width_of, HasWidth, own_gates, own_loads, own_stores, own_joins}
use Rattle.term_dag.specs.Nodes.{IsInput}
use Rattle.term_dag.specs.Made.{Extends, InputsFrom, IsMade, IsInterned, Grew}

-- one extension after another
pub both_extend : (a b c : List TermNode) → Extends a b → Extends b c → Extends a c
both_extend a b c p q = (p.0 ++ q.0, q.1 ∙ ap (λ l. l ++ q.0) p.1 ∙ append_assoc a p.0 q.0)

-- a place stays one
pub still_within : (old new : List TermNode) (t : ℕ) → Extends old new → t < length old → t < length new
still_within old new t e h = omega (arith, h, ap length e.1, length-append old e.0)

-- a list as it is
pub grew_none : (ns : List TermNode) → Grew ns ns 0 0 0 0 0
grew_none ns = record {
  extends = ([], sym (append-nil ns));
  keeps = λ x i l. refl;
  widths = λ i l. refl;
  gates = omega arith;
  loads = omega arith;
  stores = omega arith;
  joins = omega arith;
  few = omega arith;
}

-- one step after another
pub grew_on : (a b c : List TermNode) (g l s j n g' l' s' j' n' : ℕ) → Grew a b g l s j n → Grew b c g' l' s' j' n' →
    Grew a c (g + g') (l + l') (s + s') (j + j') (n + n')
grew_on a b c g l s j n g' l' s' j' n' p q = record {
  extends = both_extend a b c p.extends q.extends;
  keeps = λ x i h. q.keeps x i (still_within a b i p.extends h) ∙ p.keeps x i h;
  widths = λ i h. q.widths i (still_within a b i p.extends h) ∙ p.widths i h;
  gates = omega (arith, p.gates, q.gates);
  loads = omega (arith, p.loads, q.loads);
  stores = omega (arith, p.stores, q.stores);
  joins = omega (arith, p.joins, q.joins);
  few = omega (arith, p.few, q.few);
}

-- greater bounds
pub grew_more : (old new : List TermNode) (g l s j n g' l' s' j' n' : ℕ) → g ≤ g' → l ≤ l' → s ≤ s' → j ≤ j' → n ≤ n' → Grew old new g l s j n →
    Grew old new g' l' s' j' n'
grew_more old new g l s j n g' l' s' j' n' hg hl hs hj hn p = record {
  extends = p.extends;
  keeps = p.keeps;
  widths = p.widths;
  gates = omega (arith, p.gates, hg);
  loads = omega (arith, p.loads, hl);
  stores = omega (arith, p.stores, hs);
  joins = omega (arith, p.joins, hj);
  few = omega (arith, p.few, hn);
}

-- a word or a memory stays one
pub grew_width : (old new : List TermNode) (g l s j n w t : ℕ) → Grew old new g l s j n → HasWidth old w t → HasWidth new w t
grew_width old new g l s j n w t p h = (still_within old new t p.extends h.0, p.widths t h.0 ∙ h.1)

-- a step that makes a node
pub made_grew : (old new : List TermNode) (n : TermNode) (t : ℕ) → IsMade old new n t → Grew old new (own_gates n) (own_loads n) (own_stores n) (own_joins n) 2
made_grew old new n t m = record {
  extends = m.extends;
  keeps = m.keeps;
  widths = m.widths;
  gates = m.cost.gates;
  loads = m.cost.loads;
  stores = m.cost.stores;
  joins = m.cost.joins;
  few = m.few;
}

-- its term has the node's width
pub made_width : (old new : List TermNode) (n : TermNode) (t w : ℕ) → IsMade old new n t → width_of n ≡ w → HasWidth new w t
made_width old new n t w m e = (m.within, m.width ∙ e)

-- a step that keeps a node as it is
pub interned_grew : (old new : List TermNode) (n : TermNode) (t : ℕ) → IsInterned old new n t →
    Grew old new (own_gates n) (own_loads n) (own_stores n) (own_joins n) 1
interned_grew old new n t m = record {
  extends = m.extends;
  keeps = m.keeps;
  widths = m.widths;
  gates = m.cost.gates;
  loads = m.cost.loads;
  stores = m.cost.stores;
  joins = m.cost.joins;
  few = m.few;
}

-- its place has the node's width
pub interned_width : (old new : List TermNode) (n : TermNode) (t w : ℕ) → IsInterned old new n t → width_of n ≡ w → HasWidth new w t
interned_width old new n t w m e = (m.within, ap width_of m.stored ∙ e)

-- the inputs of a list as it is
pub inputs_none : (ns : List TermNode) (more : TermNode → Type 0) → InputsFrom ns ns more
inputs_none ns more m c i = inl c

-- of one step after another
pub inputs_on : (a b c : List TermNode) (more : TermNode → Type 0) → InputsFrom a b more → InputsFrom b c more → InputsFrom a c more
inputs_on a b c more p q m h i = elim (q m h i) [ inl k ↦ p m k i | inr k ↦ inr k ]

-- inputs that are among some are among more
pub inputs_more : (old new : List TermNode) (some more : TermNode → Type 0) → ((m : TermNode) → IsInput m → some m → more m) → InputsFrom old new some →
    InputsFrom old new more
inputs_more old new some more f p m h i = elim (p m h i) [ inl k ↦ inl k | inr k ↦ inr (f m i k) ]

-- of a step that makes a node
pub made_inputs : (old new : List TermNode) (n : TermNode) (t : ℕ) (more : TermNode → Type 0) → IsMade old new n t → (IsInput n → more n) →
    InputsFrom old new more
made_inputs old new n t more k f m h i = elim (k.named m h i) [ inl c ↦ inl c | inr e ↦ inr (subst more (sym e) (f (subst IsInput e i))) ]

-- of a step that keeps a node as it is
pub interned_inputs : (old new : List TermNode) (n : TermNode) (t : ℕ) (more : TermNode → Type 0) → IsInterned old new n t → (IsInput n → more n) →
    InputsFrom old new more
interned_inputs old new n t more k f m h i = elim (k.only m h) [ inl c ↦ inl c | inr e ↦ inr (subst more (sym e) (f (subst IsInput e i))) ]
