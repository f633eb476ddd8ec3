-- The numbers of places are written one by one.
use Rattle.std.proofs.Common.{◌≡◌, ℕ, ◌+◌, ◌<◌, ◌⊎◌, ap, sym, ◌∙◌, subst, arith, false, None, List, length, inl, inr, get_or}
use Rattle.std.specs.Prelude.{slice_index, slice_set}
use Rattle.std.proofs.lemmas.Bool.{cases_order}
use Rattle.std.proofs.lemmas.List.{get_or_default, get_or-set_same, get_or-set_other, length-set}
use Rattle.smtlib_print.specs.Orders.{AreInverse}
use Rattle.smtlib_print.specs.declared.ordering.Placed.{Placed}

-- the place has a number, which is that of a point with this place
abbrev pub HasNumber : List Placed → List ℕ → (place : ℕ) → Type 0
HasNumber order numbers place = (d : Placed) → (slice_index numbers place < length order) × ((get_or order (slice_index numbers place) d).place ≡ place)

-- so have the places of the first points
pub record AreInverseTo (order : List Placed) (n : ℕ) (numbers : List ℕ) : Type 0 where
  pub count : length numbers ≡ length order
  pub each : (i : ℕ) (d : Placed) → i < n → HasNumber order numbers (get_or order i d).place

abbrev pub no_place : Placed
no_place = record { root = None; turns = 0; stack = 0; at = 0; contract = false; place = 0 }

-- a number is written at a place: it is the place's own, and another place keeps its number
written_at : (order : List Placed) (n p q : ℕ) (numbers : List ℕ) → length numbers ≡ length order → n < length order → p < length order →
    ((d : Placed) → (get_or order n d).place ≡ p) → q ≡ p → HasNumber order (slice_set numbers p n) q
written_at order n p q numbers count l m is e d =
    let at : slice_index (slice_set numbers p n) q ≡ n =
    ap (λ x. slice_index (slice_set numbers p n) x) e ∙ get_or-set_same numbers p n 0 (omega (arith, m, count)) in
    (omega (arith, l, at), ap (λ x. (get_or order x d).place) at ∙ is d ∙ sym e)

kept_at : (order : List Placed) (n p q : ℕ) (numbers : List ℕ) → (q ≡ p → ⊥) → HasNumber order numbers q → HasNumber order (slice_set numbers p n) q
kept_at order n p q numbers apart h d =
    let other : slice_index (slice_set numbers p n) q ≡ slice_index numbers q = get_or-set_other numbers p q n 0 apart in
    subst (λ (x : ℕ). (x < length order) × ((get_or order x d).place ≡ q)) (sym other) (h d)

either_way : (order : List Placed) (n p q : ℕ) (numbers : List ℕ) → length numbers ≡ length order → n < length order → p < length order →
    ((d : Placed) → (get_or order n d).place ≡ p) → (q ≡ p) ⊎ HasNumber order numbers q → HasNumber order (slice_set numbers p n) q
either_way order n p q numbers count l m is (inl e) = written_at order n p q numbers count l m is e
either_way order n p q numbers count l m is (inr h) = elim (cases_order q p) [
  | inl e ↦ written_at order n p q numbers count l m is e
  | inr t ↦ kept_at order n p q numbers (λ e. elim t [ inl a ↦ omega (arith, e, a) | inr a ↦ omega (arith, e, a) ]) h
]

pub inverse_more : (order : List Placed) (n : ℕ) (numbers : List ℕ) → n < length order → (get_or order n no_place).place < length order →
    AreInverseTo order n numbers → AreInverseTo order (n + 1) (slice_set numbers (get_or order n no_place).place n)
inverse_more order n numbers l m so_far =
    let p = (get_or order n no_place).place in
    record {
      count = length-set numbers p n ∙ so_far.count;
      each = λ i d h. either_way order n p (get_or order i d).place numbers so_far.count l m
          (λ e. ap (λ (x : Placed). x.place) (get_or_default order n e no_place l)) (elim (cases_order i n) [
            | inl t ↦ inl (ap (λ x. (get_or order x d).place) t ∙ ap (λ (x : Placed). x.place) (get_or_default order n d no_place l))
            | inr t ↦ elim t [ inl a ↦ inr (so_far.each i d a) | inr a ↦ absurd (omega (arith, h, a)) ]
          ]);
    }

pub inverse_done : (order : List Placed) (n : ℕ) (numbers : List ℕ) → n ≡ length order → AreInverseTo order n numbers → AreInverse order numbers
inverse_done order n numbers e are i d l = are.each i d (omega (arith, e, l)) d
