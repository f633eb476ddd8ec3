-- One more literal that is true.
use Rattle.std.proofs.Common.{◌≡◌, ℕ, ◌<◌, Bool, true, false, not, ◌||◌, List, refl, sym, ap, ◌∙◌, eq-eqb, length, inl, inr, get_or}
use Rattle.std.specs.Prelude.{◌==◌, slice_set}
use Rattle.std.proofs.lemmas.Bool.{cases_eq, ne_eqb}
use Rattle.std.proofs.lemmas.Grind.{get_or-set_at}
use Rattle.std.proofs.lemmas.List.{get_or-set_other}
use Rattle.clause_spec.specs.Clauses.{Literal, same_sign, opposite}
use Rattle.clause_spec.specs.Refutation.{added}
use Rattle.refutation_checker.specs.declared.slots.Slot.{Slot}
use Rattle.refutation_checker.specs.Slots.{unset, tells, true_in, place_of}
use Rattle.refutation_checker.proofs.Occurs.{place-same}

by_sign : (a b : Bool) (h : Bool → Bool) → h (not a) ≡ false → same_sign a b ≡ (same_sign a b || h b)
by_sign true true h o = refl
by_sign true false h o = sym o
by_sign false true h o = sym o
by_sign false false h o = refl

pub assigned : (names : List ℕ) (slots : List Slot) (line : ℕ) (x : Literal) (p : ℕ) (b : Bool) → p ≡ place_of names x.variable → p < length slots →
    b ≡ x.positive →
    true_in line names slots (opposite x) ≡ false → (m : Literal) →
    true_in line names (slice_set slots p (record { line = line; positive = b })) m ≡ added x (true_in line names slots) m
assigned names slots line x p b is lt sign off m =
    let s : Slot = record { line = line; positive = b } in
    let k = place_of names m.variable in
    elim (cases_eq p k) [
      | inl e ↦
          let t : (x.variable == m.variable) ≡ true = eq-eqb x.variable m.variable (place-same names x.variable m.variable (sym is ∙ e)) in
          let o : tells line (get_or slots k unset) (not x.positive)
          ≡ false = ap (λ (n : ℕ). tells line (get_or slots n unset) (not x.positive)) (sym e ∙ is) ∙ off in
          ap (λ (r : Slot). tells line r m.positive) (get_or-set_at slots p k s unset (sym e) lt)
          ∙ rw (eq-eqb line line refl, sign, t) (by_sign x.positive m.positive (λ c. tells line (get_or slots k unset) c) o)
      | inr e ↦
          let q : (x.variable == m.variable) ≡ false = ne_eqb x.variable m.variable (λ h. e (is ∙ ap (place_of names) h)) in
          ap (λ (r : Slot). tells line r m.positive) (get_or-set_other slots p k s unset (λ h. e (sym h))) ∙ rw q refl
    ]
