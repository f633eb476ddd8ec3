-- Addresses in fixed ranges.
use Rattle.std.proofs.Common.{◌≡◌, ℕ, ◌≤◌, ◌<◌, List, length, get_or, map, true, false, ◌+◌, refl, inl, inr, ap, sym, ◌∙◌, subst, arith}
use Rattle.std.specs.Prelude.{◌&&◌, not, nat_le, Bool}
use Rattle.std.proofs.Math.Bool.{beq}
use Rattle.std.proofs.lemmas.Bool.{cases_lt}
use Rattle.std.proofs.lemmas.Bool.Decides.{nat_tests}
use Rattle.std.proofs.lemmas.List.{length-map, get_or_default}
use Rattle.std.proofs.lemmas.List.Folds.{list_any_at, list_any_none}
use Rattle.std.proofs.Math.ListN.{get_or-map}
use Rattle.std.specs.List.{All}
use Rattle.bilv_spec.specs.Notes as notes
use Rattle.bilv_spec.specs.Verdict.{fixed}
use Rattle.notes_value.specs.NoteViews.{fixed_of}
use Rattle.notes_value.specs.declared.notes.FixedRange.{FixedRange}
use Rattle.known_bytes.specs.Known.{IsHeld}

-- a fact of each element holds of a mapped list
mapped : {X Y : Type 0} (Q : Y → Type 0) (f : X → Y) (e : X) (xs : List X) → All (λ x. Q (f x)) xs → All Q (map f xs)
mapped Q f e xs h k d w =
    let within : k < length xs = rw (length-map xs f) at w in
    subst Q (sym (get_or-map f xs k e) ∙ get_or_default (map f xs) k (f e) d w) (h k e within)

abbrev no_range : FixedRange
no_range = record { low = 0; high = 0 }

-- whether a range has an address
abbrev in_range : ℕ → notes.FixedRange → Bool
in_range x r = nat_le r.low x && nat_le x r.high

range_has : (x : ℕ) (r : notes.FixedRange) → r.low ≤ x → x ≤ r.high → in_range x r ≡ true
range_has x r low high = grind (arith, nat_tests)

range_lacks : (a x free : ℕ) (r : notes.FixedRange) → (a < r.low → free < r.low) → (r.low ≤ a → a ≤ r.high → ⊥) → a ≤ x → x ≤ free → in_range x r ≡ false
range_lacks a x free r outside passed low high = grind (arith, nat_tests)

pub held_fixed : (ranges : List FixedRange) (a high x : ℕ) → IsHeld ranges a high → a ≤ x → x ≤ high → fixed (map fixed_of ranges) x ≡ true
held_fixed ranges a high x held low below =
    let k = held.0 in
    let both = held.2 no_range in
    let begins : (get_or ranges k no_range).low ≤ a = both.0 in
    let ends : high ≤ (get_or ranges k no_range).high = both.1 in
    list_any_at (in_range x) (map fixed_of ranges) k (fixed_of no_range) (rw (length-map ranges fixed_of) held.1)
    (ap (in_range x) (get_or-map fixed_of ranges k no_range) ∙ range_has x (fixed_of (get_or ranges k no_range)) (omega arith) (omega arith))

pub free_fixed : (ranges : List FixedRange) (a free x : ℕ)
    → ((k : ℕ) (d : FixedRange) → k < length ranges → a < (get_or ranges k d).low → free < (get_or ranges k d).low)
    → ((k : ℕ) (d : FixedRange) → k < length ranges → (get_or ranges k d).low ≤ a → a ≤ (get_or ranges k d).high → ⊥)
    → a ≤ x → x ≤ free → fixed (map fixed_of ranges) x ≡ false
free_fixed ranges a free x outside passed low high =
    list_any_none (in_range x) (map fixed_of ranges)
    (mapped (λ r. in_range x r ≡ false) fixed_of no_range ranges
    (λ k d w. range_lacks a x free (fixed_of (get_or ranges k d)) (outside k d w) (passed k d w) low high))

-- two tests that differ, and two that do not
pub other : (a b : Bool) → not (beq a b) ≡ true → a ≡ not b
other true true h = absurd (cc)
other true false h = refl
other false true h = refl
other false false h = absurd (cc)

pub same : (a b : Bool) → not (beq a b) ≡ false → a ≡ b
same true true h = refl
same true false h = absurd (cc)
same false true h = absurd (cc)
same false false h = refl

-- what is alike up to an address, and behind it alike too
pub goes_on : (test : ℕ → Bool) (at middle end : ℕ) (a b : Bool) → b ≡ a → ((x : ℕ) → at ≤ x → x ≤ middle → test x ≡ a) →
    ((x : ℕ) → middle + 1 ≤ x → x ≤ end → test x ≡ b)
    → (x : ℕ) → at ≤ x → x ≤ end → test x ≡ b
goes_on test at middle end a b is front back x low high = elim (cases_lt x (middle + 1)) as (λ _. test x ≡ b) [
  | inl l ↦ front x low (omega arith) ∙ sym is
  | inr l ↦ back x l high
]
