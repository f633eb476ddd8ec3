-- Rows of terms of which one is changed.
use Rattle.std.proofs.Common.{◌≡◌, ℕ, zero, suc, ◌<◌, ◌≤◌, Bool, true, false, List, [], ◌∷◌, length, get_or, set, refl, sym, ap, ◌∙◌, subst, arith}
use Rattle.std.specs.Prelude.{◌==◌, if◌then◌else◌, slice_index}
use Rattle.std.proofs.lemmas.Bool.{eq-eqb, ne_eqb, eqb-true, eqb-false}
use Rattle.std.proofs.lemmas.List.{get_or-set_same, get_or-set_other, get_or-map, length-set, length-map}
use Rattle.word_spec.specs.State.{put}
use Rattle.term_spec.specs.Terms.{TermReading, TermNode, HasWidth, term_word}
use Rattle.term_dag.specs.declared.nodes.Term.{Term}
use Rattle.term_names.specs.Choices.{places, AreWide, differs, differing}
use Rattle.term_names.proofs.Choices.{differs_same, no_term}

pub differs_most : (a b : ℕ) → differs a b ≤ 1
differs_most a b = most (a == b)
  where
    most : (t : Bool) → (if t then 0 else 1) ≤ 1
    most true = omega arith
    most false = omega arith

pub differing_same : (xs : List ℕ) → differing xs xs ≡ 0
differing_same [] = refl
differing_same (x ∷ xs) = let h = differing_same xs in let e = differs_same x x refl in omega arith

pub differing_set : (xs : List Term) (i : ℕ) (t : Term) → differing (places xs) (places (set xs i t)) ≤ 1
differing_set [] i t = omega arith
differing_set (x ∷ xs) zero t = let h = differing_same (places xs) in let e = differs_most x.0 t.0 in omega arith
differing_set (x ∷ xs) (suc i) t = let h = differing_set xs i t in let e = differs_same x.0 x.0 refl in omega arith

-- the term at a place
after_set : (xs : List Term) (i j : ℕ) (t : Term) (b : Bool) → (j == i) ≡ b → i < length xs →
    (get_or (set xs i t) j no_term).0 ≡ (if b then t.0 else (get_or xs j no_term).0)
after_set xs i j t true e h = ap (λ z. (get_or (set xs i t) z no_term).0) (eqb-true j i e) ∙ ap (λ (z : Term). z.0) (get_or-set_same xs i t no_term h)
after_set xs i j t false e h = ap (λ (z : Term). z.0) (get_or-set_other xs i j t no_term (eqb-false j i e))

width_after : (d : List TermNode) (w a b : ℕ) (t : Bool) → HasWidth d w a → HasWidth d w b → HasWidth d w (if t then a else b)
width_after d w a b true h k = h
width_after d w a b false h k = k

pub place_of : (xs : List Term) (i : ℕ) → i < length xs → slice_index (places xs) i ≡ (get_or xs i no_term).0
place_of xs i h = get_or-map (λ (t : Term). t.0) xs i no_term 0 h

-- the terms keep their width
pub wide_set : (d : List TermNode) (w : ℕ) (xs : List Term) (i : ℕ) (t : Term) → i < length xs → AreWide d w (places xs) → HasWidth d w t.0 →
    AreWide d w (places (set xs i t))
wide_set d w xs i t h f k j l =
    let n = length-map (set xs i t) (λ (t : Term). t.0) in
    let m = length-map xs (λ (t : Term). t.0) in
    let s = length-set xs i t in
    let in_set : j < length (set xs i t) = omega arith in
    let in_xs : j < length xs = omega arith in
    subst (HasWidth d w) (sym (place_of (set xs i t) j in_set ∙ after_set xs i j t (j == i) refl h))
    (width_after d w t.0 (get_or xs j no_term).0 (j == i) k (subst (HasWidth d w) (place_of xs j in_xs) (f j (omega arith))))

-- the words of the terms are those of a state with one changed
chosen_word : (b c : Bool) (v w k : ℕ) → b ≡ c → w ≡ k → (if b then v else w) ≡ (if c then v else k)
chosen_word b c v w k e f = ap (λ (z : Bool). if z then v else w) e ∙ ap (λ z. if c then v else z) f

same_test : (i j q r : ℕ) (b : Bool) → (q ≡ r → j ≡ i) → (j ≡ i → q ≡ r) → (j == i) ≡ b → b ≡ (q == r)
same_test i j q r true f g e = sym (eq-eqb q r (g (eqb-true j i e)))
same_test i j q r false f g e = sym (ne_eqb q r (λ z. eqb-false j i e (f z)))

word_if : (d : List TermNode) (x : TermReading) (b : Bool) (s t : ℕ) → term_word x d (if b then s else t) ≡ (if b then term_word x d s else term_word x d t)
word_if d x true s t = refl
word_if d x false s t = refl

pub word_set : (d : List TermNode) (x : TermReading) (xs : List Term) (i j q r : ℕ) (t : Term) (f : ℕ → ℕ) → i < length xs → j < length xs → (q ≡ r → j ≡ i) →
    (j ≡ i → q ≡ r) →
    term_word x d (slice_index (places xs) j) ≡ f q → term_word x d (slice_index (places (set xs i t)) j) ≡ put f r (term_word x d t.0) q
word_set d x xs i j q r t f h l p g e =
    let s = length-set xs i t in
    ap (term_word x d) (place_of (set xs i t) j (omega arith) ∙ after_set xs i j t (j == i) refl h)
    ∙ word_if d x (j == i) t.0 (get_or xs j no_term).0
    ∙ chosen_word (j == i) (q == r) (term_word x d t.0) (term_word x d (get_or xs j no_term).0) (f q) (same_test i j q r (j == i) p g refl)
    (ap (term_word x d) (sym (place_of xs j l)) ∙ e)
