-- Looks at clauses by their watched literals.
use Rattle.std.proofs.Common.{◌≡◌, Bool, true, false, not, ◌&&◌, [], ◌∷◌, refl, sym, ap, ◌∙◌, inl, inr}
use Rattle.std.proofs.lemmas.Bool.{cases_Bool, and_parts, both_ways, or_cases, not-true}
use Rattle.clause_spec.specs.Clauses.{Literal, Clause, same, opposite, has}
use Rattle.clause_spec.specs.Refutation.{Other, UnitOf, Conflict, all_same, left_over, look_left, look_of}
use Rattle.clause_spec.proofs.Looks.{same-true, same-self, or_left, or_right, left-has, all_same-has}
use Rattle.sat_core.specs.Moves.{IsShort}
use Rattle.sat_core.proofs.Quiet.{all_same-from, nothing-left, other-not_false}

module _ (h : Literal → Bool) where
  left-keeps : (c : Clause) (l : Literal) → has c l ≡ true → h (opposite l) ≡ false → has (left_over h c) l ≡ true
  left-keeps [] l p n = absurd (cc)
  left-keeps (m ∷ ms) l p n = elim (cases_Bool (h (opposite m))) [
    | inl e ↦ elim (or_cases (same m l) (has ms l) p) [
      | inl s ↦ absurd (both_ways (h (opposite m)) (ap (λ (z : Literal). h (opposite z)) (same-true m l s) ∙ n) e)
      | inr s ↦ rw e (left-keeps ms l s n)
    ]
    | inr e ↦ elim (or_cases (same m l) (has ms l) p) [
      | inl s ↦ rw e (or_left (same m l) (has (left_over h ms) l) s)
      | inr s ↦ rw e (or_right (same m l) (has (left_over h ms) l) (left-keeps ms l s n))
    ]
  ]

  -- what is left is no unit
  no-unit : (ls : Clause) (l : Literal) → has ls l ≡ true → ((x : Literal) → ((m : Literal) → has ls m ≡ true → m ≡ x) → h x ≡ false → ⊥) →
      look_left h ls ≡ Other
  no-unit [] l p f = absurd (cc)
  no-unit (x ∷ xs) l p f = elim (cases_Bool (all_same x xs && not (h x))) [
    | inl e ↦
        let q = and_parts (all_same x xs) (not (h x)) e in
        absurd (f x (λ m g. elim (or_cases (same x m) (has xs m) g) [ inl s ↦ sym (same-true x m s) | inr s ↦ all_same-has h x xs q.0 m s ])
        (not-true (h x) q.1))
    | inr e ↦ rw e refl
  ]

  pub other-true : (c : Clause) (l : Literal) → has c l ≡ true → h l ≡ true → h (opposite l) ≡ false → look_of h c ≡ Other
  other-true c l p t n =
      let k = left-keeps c l p n in
      no-unit (left_over h c) l k (λ x f g. both_ways (h x) g (ap h (sym (f l k)) ∙ t))

  pub other-two : (c : Clause) (a b : Literal) → has c a ≡ true → has c b ≡ true → same a b ≡ false → h (opposite a) ≡ false → h (opposite b) ≡ false →
      look_of h c ≡ Other
  other-two c a b p q d n m =
      let k = left-keeps c a p n in
      let j = left-keeps c b q m in
      no-unit (left_over h c) a k (λ x f g. both_ways (same a b) d (ap (same a) (f b j ∙ sym (f a k)) ∙ same-self a))

  only-unit : (ls : Clause) (b : Literal) → has ls b ≡ true → ((m : Literal) → has ls m ≡ true → m ≡ b) → h b ≡ false → look_left h ls ≡ UnitOf b
  only-unit [] b p f n = absurd (cc)
  only-unit (x ∷ xs) b p f n =
      let q : x ≡ b = f x (or_left (same x x) (has xs x) (same-self x)) in
      let s : all_same x xs ≡ true = all_same-from h x xs (λ m g. f m (or_right (same x m) (has xs m) g) ∙ sym q) in
      let o : h x ≡ false = ap h q ∙ n in
      rw (s, o) (ap (λ z. UnitOf z) q)

  pub unit-from : (c : Clause) (b : Literal) → has c b ≡ true → ((m : Literal) → has c m ≡ true → same m b ≡ false → h (opposite m) ≡ true) → h b ≡ false →
      h (opposite b) ≡ false → look_of h c ≡ UnitOf b
  unit-from c b p f n o =
      only-unit (left_over h c) b (left-keeps c b p o) (λ m g.
      let r = left-has h c m g in
      elim (cases_Bool (same m b)) [ inl s ↦ same-true m b s | inr s ↦ absurd (both_ways (h (opposite m)) r.1 (f m r.0 s)) ]) n

  pub conflict-from : (c : Clause) (b : Literal) → ((m : Literal) → has c m ≡ true → same m b ≡ false → h (opposite m) ≡ true) → h (opposite b) ≡ true →
      look_of h c ≡ Conflict
  conflict-from c b f o =
      ap (look_left h) (nothing-left h c (λ m p. elim (cases_Bool (same m b)) [
        | inl s ↦ ap (λ (z : Literal). h (opposite z)) (same-true m b s) ∙ o
        | inr s ↦ f m p s
      ]))

  -- a short clause that is neither a unit nor a conflict has a literal that is true
  pub short-met : (c : Clause) → IsShort c → look_of h c ≡ Other → (l : Literal) × (has c l ≡ true) × (h l ≡ true)
  short-met [] s o = absurd (cc)
  short-met (x ∷ xs) s o =
      let p : has (x ∷ xs) x ≡ true = or_left (same x x) (has xs x) (same-self x) in
      elim (cases_Bool (h x)) [
        | inl e ↦ (x, p, e)
        | inr e ↦ elim (cases_Bool (h (opposite x))) [
          | inl f ↦ absurd (other-not_false h (x ∷ xs) o (λ m q. ap (λ (z : Literal). h (opposite z)) (s m x q p) ∙ f))
          | inr f ↦
              let u = unit-from (x ∷ xs) x p (λ m q d. absurd (both_ways (same m x) d (ap (λ (z : Literal). same z x) (s m x q p) ∙ same-self x))) e f in
              absurd (let g : UnitOf x ≡ Other = sym u ∙ o in cc)
        ]
      ]
