-- The place of an address among rising ones.
use Rattle.std.proofs.Common.{◌≢◌, ◌⊎◌, ◌∙◌, ℕ, zero, suc, ◌≤◌, ◌<◌, ◌+◌, List, length, get_or, sym, ap, arith, inl, inr}
use Rattle.std.proofs.Math.Nat.{eq-or-lt_of_le, le_refl}
use Rattle.std.proofs.lemmas.List.{get_or_default}
use Rattle.byte_mem.specs.Kept.{IsRising}
use Rattle.byte_mem.specs.Puts.{AreAround, IsAt}

-- what lies at or before an entry below an address is below it
pub below_place : (es : List (ℕ × ℕ)) (m a : ℕ) (e : ℕ × ℕ) → IsRising es → m < length es → (get_or es m e).0 < a →
    (i : ℕ) (d : ℕ × ℕ) → i < m + 1 → (get_or es i d).0 < a
below_place es m a e rising within here i d less =
    let same = ap (λ x. x.0) (get_or_default es m d e within) in
    let before : i ≤ m = omega arith in
    elim (eq-or-lt_of_le before) [
      | inl is ↦ rw (ap (λ k. (get_or es k d).0) is) (omega arith)
      | inr l ↦ let r = rising i m d l within in omega arith
    ]

-- what lies at or behind an entry that is not below an address is not below it
pub from_place : (es : List (ℕ × ℕ)) (m a : ℕ) (e : ℕ × ℕ) → IsRising es → m < length es → a ≤ (get_or es m e).0 →
    (i : ℕ) (d : ℕ × ℕ) → m ≤ i → i < length es → a ≤ (get_or es i d).0
from_place es m a e rising within here i d behind inside =
    let same = ap (λ x. x.0) (get_or_default es m d e within) in
    elim (eq-or-lt_of_le behind) [
      | inl is ↦ let at = ap (λ k. (get_or es k d).0) is in omega arith
      | inr l ↦ let r = rising m i d l inside in omega arith
    ]

pub side : (i k : ℕ) → (i ≤ k) ⊎ (k < i)
side zero k = inl (omega arith)
side (suc i) zero = inr (omega arith)
side (suc i) (suc k) = elim (side i k) [ inl l ↦ inl (omega arith) | inr l ↦ inr (omega arith) ]

-- no entry has an address whose place has another one
pub nowhere : (es : List (ℕ × ℕ)) (i a : ℕ) (e : ℕ × ℕ) → IsRising es → ((k : ℕ) (d : ℕ × ℕ) → k < i → (get_or es k d).0 < a) →
    ((k : ℕ) (d : ℕ × ℕ) → i ≤ k → k < length es → a ≤ (get_or es k d).0) → i < length es → (get_or es i e).0 ≢ a →
    (k : ℕ) (d : ℕ × ℕ) → k < length es → (get_or es k d).0 ≢ a
nowhere es i a e rising below from within other k d inside is =
    elim (side i k) [
      | inl l ↦ elim (eq-or-lt_of_le l) [
        | inl at ↦ absurd (other (ap (λ x. x.0) (get_or_default es i e d within) ∙ ap (λ n. (get_or es n d).0) at ∙ is))
        | inr less ↦
            let r = rising i k d less inside in
            let f = from i d (le_refl i) within in absurd (omega arith)
      ]
      | inr less ↦ let b = below k d less in absurd (omega arith)
    ]

-- the entries around an address that has one, and around one that has none
module _ (es : List (ℕ × ℕ)) (i a : ℕ) (rising : IsRising es) (within : i ≤ length es) (below : (k : ℕ) (d : ℕ × ℕ) → k < i → (get_or es k d).0 < a)
    (from : (k : ℕ) (d : ℕ × ℕ) → i ≤ k → k < length es → a ≤ (get_or es k d).0) where
  above : (k : ℕ) (d : ℕ × ℕ) → i < k → k < length es → a + 1 ≤ (get_or es k d).0
  above k d l w = let r = rising i k d l w in let f = from i d (le_refl i) (omega arith) in omega arith

  pub found_around : IsAt es i a → AreAround es a i (i + 1)
  found_around at = record {
    ordered = omega arith;
    within = let w = at.0 in omega arith;
    before_low = below;
    from_low = from;
    before_high = λ k d h. let le : k ≤ i = omega arith in elim (eq-or-lt_of_le le) [
      | inl is ↦ let e = ap (λ (x : ℕ × ℕ). x.0) (get_or_default es i d (0, 0) at.0) in let f = at.1 in let g = ap (λ n. (get_or es n d).0) is in omega arith
      | inr l ↦ let b = below k d l in omega arith
    ];
    from_high = λ k d h w. above k d (omega arith) w;
  }

  pub missed_around : ¬ IsAt es i a → AreAround es a i i
  missed_around away = record {
    ordered = le_refl i;
    within = within;
    before_low = below;
    from_low = from;
    before_high = λ k d h. let b = below k d h in omega arith;
    from_high = λ k d h w. elim (eq-or-lt_of_le h) [
      | inl is ↦
          let f = from k d h w in
          elim (eq-or-lt_of_le f) [
            | inl same ↦ absurd (away (omega arith, ap (λ n. (get_or es n (0, 0)).0) is ∙ ap (λ (x : ℕ × ℕ). x.0) (get_or_default es k (0, 0) d w) ∙ sym same))
            | inr l ↦ omega arith
          ]
      | inr l ↦ above k d l w
    ];
  }

  pub none_at : ¬ IsAt es i a → (k : ℕ) (d : ℕ × ℕ) → k < length es → (get_or es k d).0 ≢ a
  none_at away k d w is = let m = missed_around away in elim (side i k) [
    | inl l ↦ (let h = m.from_high k d l w in absurd (omega arith))
    | inr l ↦ (let h = below k d l in absurd (omega arith))
  ]
