-- Steps by which a line becomes a term, one after another.
use Rattle.std.proofs.Common.{◌≡◌, ℕ, ◌+◌, ◌<◌, ◌≤◌, Bool, true, false, List, [], length, refl, ap, ◌∙◌, arith, bit_and, bit_or, ◌&&◌, ◌||◌}
use Rattle.word_spec.specs.Words.{bit}
use Rattle.term_spec.specs.Terms.{TermReading, InRange, TermNode, AreTyped, node_value, values_from, term_word, width_of, node_at, own_gates, own_loads, own_stores, own_joins}
use Rattle.term_dag.specs.Nodes.{IsInput}
use Rattle.term_dag.specs.Made.{IsMade, IsInterned}
use Rattle.term_dag.proofs.Growth.{grew_none, grew_on, grew_more, made_grew, made_inputs, interned_grew, interned_inputs, inputs_none, inputs_on}
use Rattle.note_terms.specs.Steps.{IsStep}

-- a term that is there
pub step_stays : (ns : List TermNode) (g n : ℕ) (Fits : ℕ → Type 0) (f : TermReading → ℕ) (t : ℕ) →
    AreTyped ns → t < length ns → Fits (width_of (node_at ns t)) → ((x : TermReading) → InRange x → term_word x ns t ≡ f x) → IsStep ns ns g 0 n Fits f t
step_stays ns g n Fits f t typed within fits value = record {
  grew = grew_more ns ns 0 0 0 0 0 g 0 0 0 n (omega arith) (omega arith) (omega arith) (omega arith) (omega arith) (grew_none ns);
  inputs = inputs_none ns _;
  typed = typed;
  within = within;
  fits = fits;
  value = value;
}

-- a node that was made
pub step_made : (old new : List TermNode) (g l : ℕ) (Fits : ℕ → Type 0) (f : TermReading → ℕ) (m : TermNode) (t : ℕ) → IsMade old new m t →
    own_gates m ≤ g → own_loads m ≤ l → own_stores m ≡ 0 → own_joins m ≡ 0 → (IsInput m → ⊥) → ((w : ℕ) → w ≡ width_of m → Fits w) →
    ((x : TermReading) → InRange x → (node_value x (values_from x [] old) m).word ≡ f x) → IsStep old new g l 2 Fits f t
step_made old new g l Fits f m t k hg hl hs hj none fits value = record {
  grew = grew_more old new (own_gates m) (own_loads m) (own_stores m) (own_joins m) 2 g l 0 0 2 hg hl (omega (arith, hs)) (omega (arith, hj)) (omega arith)
      (made_grew old new m t k);
  inputs = made_inputs old new m t _ k none;
  typed = k.typed;
  within = k.within;
  fits = fits _ k.width;
  value = λ x r. ap (λ v. v.word) (k.value x r) ∙ value x r;
}

-- a node that was kept as it is
pub step_kept : (old new : List TermNode) (Fits : ℕ → Type 0) (f : TermReading → ℕ) (m : TermNode) (t : ℕ) → IsInterned old new m t →
    own_gates m ≡ 0 → own_loads m ≡ 0 → own_stores m ≡ 0 → own_joins m ≡ 0 → (IsInput m → ⊥) → ((w : ℕ) → w ≡ width_of m → Fits w) →
    ((x : TermReading) → InRange x → (node_value x (values_from x [] old) m).word ≡ f x) → IsStep old new 0 0 1 Fits f t
step_kept old new Fits f m t k hg hl hs hj none fits value = record {
  grew = grew_more old new (own_gates m) (own_loads m) (own_stores m) (own_joins m) 1 0 0 0 0 1 (omega (arith, hg)) (omega (arith, hl)) (omega (arith, hs))
      (omega (arith, hj)) (omega arith) (interned_grew old new m t k);
  inputs = interned_inputs old new m t _ k none;
  typed = k.typed;
  within = k.within;
  fits = fits _ (ap width_of k.stored);
  value = λ x r. ap (λ v. v.word) (k.value x) ∙ value x r;
}

-- a step with greater bounds, and its value by another name
pub step_as : (old new : List TermNode) (g l n g' l' n' : ℕ) (Fits Fits' : ℕ → Type 0) (f f' : TermReading → ℕ) (t : ℕ) → IsStep old new g l n Fits f t →
    g ≤ g' → l ≤ l' → n ≤ n' → ((w : ℕ) → Fits w → Fits' w) → ((x : TermReading) → InRange x → f x ≡ f' x) → IsStep old new g' l' n' Fits' f' t
step_as old new g l n g' l' n' Fits Fits' f f' t s hg hl hn fits same = record {
  grew = grew_more old new g l 0 0 n g' l' 0 0 n' hg hl (omega arith) (omega arith) hn s.grew;
  inputs = s.inputs;
  typed = s.typed;
  within = s.within;
  fits = fits _ s.fits;
  value = λ x r. s.value x r ∙ same x r;
}

-- one step after another
pub step_on : (a b c : List TermNode) (g l n g' l' n' : ℕ) (Fits Fits' : ℕ → Type 0) (f f' : TermReading → ℕ) (s t : ℕ) →
    IsStep a b g l n Fits f s → IsStep b c g' l' n' Fits' f' t → IsStep a c (g + g') (l + l') (n + n') Fits' f' t
step_on a b c g l n g' l' n' Fits Fits' f f' s t p q = record {
  grew = grew_on a b c g l 0 0 n g' l' 0 0 n' p.grew q.grew;
  inputs = inputs_on a b c _ p.inputs q.inputs;
  typed = q.typed;
  within = q.within;
  fits = q.fits;
  value = q.value;
}

-- the word of a term that was there before
pub step_keeps : (old new : List TermNode) (g l n : ℕ) (Fits : ℕ → Type 0) (f : TermReading → ℕ) (t : ℕ) → IsStep old new g l n Fits f t →
    (x : TermReading) (i : ℕ) → i < length old → term_word x new i ≡ term_word x old i
step_keeps old new g l n Fits f t s x i h = ap (λ v. v.word) (s.grew.keeps x i h)

-- two terms, and what is made of them
pub step_both : (a b c d : List TermNode) (l r l' r' t g1 n1 g2 n2 g n : ℕ) (W Fits : ℕ → Type 0) (F : ℕ → ℕ) (H : ℕ → ℕ → ℕ) → l < length a → r < length a →
    IsStep a b g1 0 n1 W (λ x. F (term_word x a l)) l' → IsStep b c g2 0 n2 W (λ x. F (term_word x b r)) r' →
    IsStep c d g 0 n Fits (λ x. H (term_word x c l') (term_word x c r')) t →
    IsStep a d (g1 + g2 + g) 0 (n1 + n2 + n) Fits (λ x. H (F (term_word x a l)) (F (term_word x a r))) t
step_both a b c d l r l' r' t g1 n1 g2 n2 g n W Fits F H hl hr p q s =
    step_as a d (g1 + g2 + g) 0 (n1 + n2 + n) _ 0 _ Fits Fits _ _ t
    (step_on a c d (g1 + g2) 0 (n1 + n2) g 0 n W Fits _ _ r' t (step_on a b c g1 0 n1 g2 0 n2 W W _ _ l' r' p q) s) (omega arith) (omega arith) (omega arith)
    (λ w k. k)
    (λ x k.
    let left = step_keeps b c g2 0 n2 W _ r' q x l' p.within ∙ p.value x k in
    let right = q.value x k ∙ ap F (step_keeps a b g1 0 n1 W _ l' p x r hr) in
    ap (λ v. H v (term_word x c r')) left ∙ ap (H (F (term_word x a l))) right)

-- connectives of bits
pub bits_and : (p q : Bool) → bit_and (bit p) (bit q) ≡ bit (p && q)
bits_and true true = refl
bits_and true false = refl
bits_and false true = refl
bits_and false false = refl

pub bits_or : (p q : Bool) → bit_or (bit p) (bit q) ≡ bit (p || q)
bits_or true true = refl
bits_or true false = refl
bits_or false true = refl
bits_or false false = refl
