-- Looks at a clause: what a conflict and a unit say of its literals.
use Rattle.std.proofs.Common.{◌≡◌, ℕ, Bool, true, false, not, ◌&&◌, ◌||◌, [], ◌∷◌, refl, arith, sym, ap, ◌∙◌, eq-eqb, inl, inr}
use Rattle.std.specs.Prelude.{◌==◌}
use Rattle.std.proofs.lemmas.Bool.{eqb-true, cases_Bool, and_parts, or_cases, and_from, not-true}
use Rattle.clause_spec.specs.Clauses.{Literal, Clause, same, same_sign, opposite, has}
use Rattle.clause_spec.specs.UnitPropagation.{others_false}
use Rattle.clause_spec.specs.Refutation.{Conflict, UnitOf, all_same, left_over, look_left, look_of}

-- every literal of the clause is false, where holds tells the true ones
abbrev pub all_false : (Literal → Bool) → Clause → Bool
all_false holds [] = true
all_false holds (m ∷ ms) = holds (opposite m) && all_false holds ms

-- a literal of its parts
abbrev pub lit : ℕ → Bool → Literal
lit n b = record { variable = n; positive = b }

pub same_sign-true : (a b : Bool) → same_sign a b ≡ true → a ≡ b
same_sign-true true true h = refl
same_sign-true true false h = cc
same_sign-true false true h = cc
same_sign-true false false h = refl

pub same_sign-self : (a : Bool) → same_sign a a ≡ true
same_sign-self true = refl
same_sign-self false = refl

pub same-self : (l : Literal) → same l l ≡ true
same-self l = rw (eq-eqb l.variable l.variable refl, same_sign-self l.positive) refl

pub same-true : (l m : Literal) → same l m ≡ true → l ≡ m
same-true l m h =
    let p = and_parts (l.variable == m.variable) (same_sign l.positive m.positive) h in
    let v : l.variable ≡ m.variable = eqb-true l.variable m.variable p.0 in
    let s : l.positive ≡ m.positive = same_sign-true l.positive m.positive p.1 in
    ap (λ n. lit n l.positive) v ∙ ap (λ b. lit m.variable b) s

pub or_left : (a b : Bool) → a ≡ true → (a || b) ≡ true
or_left a b h = rw h refl

pub or_right : (a b : Bool) → b ≡ true → (a || b) ≡ true
or_right true b h = refl
or_right false b h = h

module _ (holds : Literal → Bool) where
  -- what a look says of the clause
  pub left-empty : (c : Clause) → left_over holds c ≡ [] → all_false holds c ≡ true
  left-empty [] h = refl
  left-empty (m ∷ ms) h = elim (cases_Bool (holds (opposite m))) [
    | inl e ↦ rw e (left-empty ms (rw e at h))
    | inr e ↦ absurd (let g = rw e at h in cc)
  ]

  pub left-has : (c : Clause) (l : Literal) → has (left_over holds c) l ≡ true → (has c l ≡ true) × (holds (opposite l) ≡ false)
  left-has [] l h = absurd (cc)
  left-has (m ∷ ms) l h = elim (cases_Bool (holds (opposite m))) [
    | inl e ↦ let r = left-has ms l (rw e at h) in (grind (arith, r.0), r.1)
    | inr e ↦ let g = rw e at h in elim (or_cases (same m l) (has (left_over holds ms) l) g) [
      | inl s ↦ let q = same-true m l s in (grind (arith), rw q at e)
      | inr t ↦ let r = left-has ms l t in (grind (arith, r.0), r.1)
    ]
  ]

  pub all_same-has : (x : Literal) (xs : Clause) → all_same x xs ≡ true → (m : Literal) → has xs m ≡ true → m ≡ x
  all_same-has x [] h m g = absurd (cc)
  all_same-has x (y ∷ ys) h m g =
      let p = and_parts (same y x) (all_same x ys) h in
      elim (or_cases (same y m) (has ys m) g) [
        | inl s ↦ sym (same-true y m s) ∙ same-true y x p.0
        | inr t ↦ all_same-has x ys p.1 m t
      ]

  pub others-from : (x : Literal) (c : Clause) → ((m : Literal) → has (left_over holds c) m ≡ true → m ≡ x) → others_false holds x c ≡ true
  others-from x [] h = refl
  others-from x (m ∷ ms) h = elim (cases_Bool (holds (opposite m))) [
    | inl e ↦ and_from (same m x || holds (opposite m)) (others_false holds x ms)
        (or_right (same m x) (holds (opposite m)) e)
        (others-from x ms (rw e at h))
    | inr e ↦ let g = rw e at h in
        and_from (same m x || holds (opposite m)) (others_false holds x ms)
        (or_left (same m x) (holds (opposite m)) (rw (g m (or_left (same m m) (has (left_over holds ms) m) (same-self m))) (same-self x)))
        (others-from x ms (λ k p. g k (or_right (same m k) (has (left_over holds ms) k) p)))
  ]

  look_left-conflict : (ls : Clause) → look_left holds ls ≡ Conflict → ls ≡ []
  look_left-conflict [] h = refl
  look_left-conflict (x ∷ xs) h = elim (cases_Bool (all_same x xs && not (holds x))) [
    | inl e ↦ absurd (let g = rw e at h in cc)
    | inr e ↦ absurd (let g = rw e at h in cc)
  ]

  -- a conflict has all literals false
  pub look-conflict : (c : Clause) → look_of holds c ≡ Conflict → all_false holds c ≡ true
  look-conflict c h = left-empty c (look_left-conflict (left_over holds c) h)

  look_left-unit : (l : Literal) (ls : Clause) → look_left holds ls ≡ UnitOf l → (has ls l ≡ true) × (holds l ≡ false) ×
      ((m : Literal) → has ls m ≡ true → m ≡ l)
  look_left-unit l [] h = absurd (cc)
  look_left-unit l (x ∷ xs) h = elim (cases_Bool (all_same x xs && not (holds x))) [
    | inl e ↦
        let g : UnitOf x ≡ UnitOf l = rw e at h in
        let q : x ≡ l = cc in
        let p = and_parts (all_same x xs) (not (holds x)) e in (
          or_left (same x l) (has xs l) (rw q (same-self l)),
          rw (← q) (not-true (holds x) p.1),
          λ m t. elim (or_cases (same x m) (has xs m) t) [
            | inl s ↦ sym (same-true x m s) ∙ q
            | inr s ↦ all_same-has x xs p.0 m s ∙ q
          ],
        )
    | inr e ↦ absurd (let g = rw e at h in cc)
  ]

  -- a unit: the literal is of the clause and unassigned, and the others are false
  pub look-unit : (c : Clause) (l : Literal) → look_of holds c ≡ UnitOf l
      → (has c l ≡ true) × (others_false holds l c ≡ true) × (holds l ≡ false) × (holds (opposite l) ≡ false)
  look-unit c l h =
      let p = look_left-unit l (left_over holds c) h in
      let q = left-has c l p.0 in
      (q.0, others-from l c p.2, p.1, q.1)
