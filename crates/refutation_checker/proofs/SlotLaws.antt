-- What slots tell.
use Rattle.std.proofs.Common.{◌≡◌, ℕ, ◌<◌, ◌≤◌, ◌+◌, Bool, true, false, not, ◌&&◌, ◌||◌, List, [], ◌∷◌, ◌++◌, refl, arith, sym, ap, ◌∙◌, eq-eqb, length, inl, inr, get_or, take, drop, take-append-drop}
use Rattle.std.specs.Prelude.{◌==◌, nat_lt}
use Rattle.std.proofs.lemmas.Bool.{cases_Bool, or_cases, cases_eq, ne_eqb, ltb-false}
use Rattle.std.proofs.lemmas.List.{take_more}
use Rattle.clause_spec.specs.Clauses.{Literal, Clause, same, same_sign, opposite, has}
use Rattle.clause_spec.specs.UnitPropagation.{negations}
use Rattle.clause_spec.specs.Refutation.{is_tautology, some_above, added}
use Rattle.clause_spec.proofs.Looks.{same-true, or_left, or_right}
use Rattle.refutation_checker.specs.declared.slots.Slot.{Slot}
use Rattle.refutation_checker.specs.Slots.{unset, true_in, place_of, AreUpTo}

-- slots that were set by earlier lines tell nothing
pub fresh : (names : List ℕ) (slots : List Slot) (n line : ℕ) → AreUpTo n slots → n < line → (m : Literal) → true_in line names slots m ≡ false
fresh names slots n line up lt m =
    let k = place_of names m.variable in
    let h = up k in
    let q : ((get_or slots k unset).line == line) ≡ false = ne_eqb (get_or slots k unset).line line (λ e. omega (arith, e, h)) in
    rw q refl

-- no literal of a clause of which none is above n is above n
pub none_above-within : (n : ℕ) (c : Clause) → some_above n c ≡ false → (l : Literal) → has c l ≡ true → l.variable ≤ n
none_above-within n [] h l g = absurd (cc)
none_above-within n (x ∷ xs) h l g = elim (cases_Bool (nat_lt n x.variable)) [
  | inl a ↦ absurd (let b = rw a at h in cc)
  | inr a ↦ elim (or_cases (same x l) (has xs l) g) [
    | inl s ↦ let q : x.variable ≤ n = ltb-false n x.variable a in let e : x.variable
        ≡ l.variable = ap (λ (y : Literal). y.variable) (same-true x l s) in omega arith
    | inr s ↦ none_above-within n xs (rw a at h) l s
  ]
]

has-append : (xs ys : Clause) (l : Literal) → has (xs ++ ys) l ≡ (has xs l || has ys l)
has-append [] ys l = refl
has-append (x ∷ xs) ys l = grind (arith, has-append xs ys l)

or_swap : (a b : Bool) → (a || b) ≡ (b || a)
or_swap true true = refl
or_swap true false = refl
or_swap false true = refl
or_swap false false = refl

or_false : (b : Bool) → (b || false) ≡ b
or_false true = refl
or_false false = refl

signs-opposite : (a b : Bool) → same_sign (not a) b ≡ same_sign a (not b)
signs-opposite true true = refl
signs-opposite true false = refl
signs-opposite false true = refl
signs-opposite false false = refl

signs-swap : (a b : Bool) → same_sign a (not b) ≡ same_sign b (not a)
signs-swap true true = refl
signs-swap true false = refl
signs-swap false true = refl
signs-swap false false = refl

eq-swap : (a b : ℕ) → (a == b) ≡ (b == a)
eq-swap a b = elim (cases_eq a b) [
  | inl e ↦ rw (eq-eqb a b e, eq-eqb b a (sym e)) refl
  | inr e ↦ rw (ne_eqb a b e, ne_eqb b a (λ q. e (sym q))) refl
]

-- a literal's opposite is this one where this one's is that literal
pub same-opposite : (x m : Literal) → same (opposite x) m ≡ same x (opposite m)
same-opposite x m = ap (λ b. (x.variable == m.variable) && b) (signs-opposite x.positive m.positive)

same-swap : (x m : Literal) → same x (opposite m) ≡ same m (opposite x)
same-swap x m = rw (eq-swap x.variable m.variable, signs-swap x.positive m.positive) refl

tautology-bools : (a b c d e : Bool) → ((a || b) || (c || d)) ≡ ((a || c) || (b || d))
tautology-bools true b c d e = refl
tautology-bools false true true d e = refl
tautology-bools false true false d e = refl
tautology-bools false false c d e = refl

-- one more literal
pub is_tautology-more : (xs : Clause) (x : Literal) → is_tautology (xs ++ x ∷ []) ≡ (is_tautology xs || has xs (opposite x))
is_tautology-more [] x = refl
is_tautology-more (y ∷ ys) x =
    rw (has-append ys (x ∷ []) (opposite y), is_tautology-more ys x, or_false (same x (opposite y)), same-swap x y)
    (tautology-bools (has ys (opposite y)) (same y (opposite x)) (is_tautology ys) (has ys (opposite x)) false)

is_tautology-front : (xs ys : Clause) → is_tautology xs ≡ true → is_tautology (xs ++ ys) ≡ true
is_tautology-front [] ys h = cc
is_tautology-front (x ∷ xs) ys h = elim (or_cases (has xs (opposite x)) (is_tautology xs) h) [
  | inl a ↦ or_left (has (xs ++ ys) (opposite x)) (is_tautology (xs
      ++ ys)) (has-append xs ys (opposite x) ∙ or_left (has xs (opposite x)) (has ys (opposite x)) a)
  | inr a ↦ or_right (has (xs ++ ys) (opposite x)) (is_tautology (xs ++ ys)) (is_tautology-front xs ys a)
]

module _ (c : Clause) (i : ℕ) (x : Literal) (lt : i < length c) (is : x ≡ get_or c i x) where
  front : take (i + 1) c ≡ take i c ++ x ∷ []
  front = take_more c i x lt ∙ ap (λ (y : Literal). take i c ++ y ∷ []) (sym is)

  pub plain-more : is_tautology (take i c) ≡ false → negations (take i c) x ≡ false → is_tautology (take (i + 1) c) ≡ false
  plain-more p n = ap is_tautology front ∙ is_tautology-more (take i c) x ∙ rw (p, n) refl

  pub not-plain : negations (take i c) x ≡ true → true ≡ is_tautology c
  not-plain n =
      let t : is_tautology (take (i + 1) c) ≡ true = ap is_tautology front ∙ is_tautology-more (take i c) x ∙ or_right (is_tautology (take i c))
      (has (take i c) (opposite x)) n in
      sym (ap is_tautology (sym (take-append-drop (i + 1) c)) ∙ is_tautology-front (take (i + 1) c) (drop (i + 1) c) t)

  pub denied-more : (h k : Literal → Bool) → ((m : Literal) → h m ≡ negations (take i c) m) → ((m : Literal) → k m ≡ added (opposite x) h m) → (m : Literal) →
      k m ≡ negations (take (i + 1) c) m
  denied-more h k inv new m =
      new m ∙ rw (inv m, same-opposite x m) (or_swap (same x (opposite m)) (has (take i c) (opposite m)))
      ∙ sym (ap (λ (d : Clause). has d (opposite m)) front ∙ has-append (take i c) (x ∷ []) (opposite m) ∙ ap (λ b. has (take i c) (opposite m) ||
      b) (or_false (same x (opposite m))))
