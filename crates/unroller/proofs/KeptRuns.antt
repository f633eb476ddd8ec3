-- Runs of kept addresses, as definitions see them.
use Rattle.std.proofs.Common.{◌≡◌, refl, sym, ◌∙◌, subst, arith, ℕ, zero, suc, ◌<◌, ◌≤◌, ◌^◌, Bool, true, false, List, [], ◌∷◌, length, get_or}
use Rattle.std.specs.Prelude.{◌||◌, ◌&&◌, nat_le, map}
use Rattle.std.proofs.lemmas.Bool.Decides.{nat_tests}
use Rattle.std.proofs.lemmas.List.{get_or_default}
use Rattle.bilv_spec.specs.Elf.{IsInRuns, kept_at}
use Rattle.bilv_spec.proofs.PointsInGraph.{of_map}
use Rattle.walk_spec.specs.Unrolled.{AddressRun, is_in}
use Rattle.question_form.specs.Views.{kept_of}
use Rattle.unroller.specs.Kept.{KeptRunsAreRight}

within : (low a high : ℕ) → (nat_le low a && nat_le a high) ≡ true → (low ≤ a) × (a ≤ high)
within low a high h = (grind (arith, nat_tests), grind (arith, nat_tests))

is_within : (low a high : ℕ) → low ≤ a → a ≤ high → (nat_le low a && nat_le a high) ≡ true
is_within low a high h i = grind (arith, nat_tests)

abbrev holds : ℕ × ℕ → ℕ → Bool
holds r a = nat_le r.0 a && nat_le a r.1

here_or : (r : ℕ × ℕ) (rest : List (ℕ × ℕ)) (a : ℕ) (b : Bool) → holds r a ≡ b → (b || is_in (map kept_of rest) a) ≡ true →
    (is_in (map kept_of rest) a ≡ true → IsInRuns rest a) → IsInRuns (r ∷ rest) a
here_or r rest a true e h more = let w = within r.0 a r.1 e in (0, omega arith, w.0, w.1)
here_or r rest a false e h more = let q = more h in (suc q.0, omega arith, q.2, q.3)

found : (runs : List (ℕ × ℕ)) (a : ℕ) → is_in (map kept_of runs) a ≡ true → IsInRuns runs a
found [] a h = absurd (cc)
found (r ∷ rest) a h = here_or r rest a (holds r a) refl h (found rest a)

or_left : (a b : Bool) → a ≡ true → (a || b) ≡ true
or_left true b h = refl
or_left false b h = absurd (cc)

or_right : (a b : Bool) → b ≡ true → (a || b) ≡ true
or_right true b h = refl
or_right false b h = h

told : (runs : List (ℕ × ℕ)) (a : ℕ) → IsInRuns runs a → is_in (map kept_of runs) a ≡ true
told [] a (i, l, h, j) = absurd (omega arith)
told (r ∷ rest) a (zero, l, h, j) = or_left (holds r a) (is_in (map kept_of rest) a) (is_within r.0 a r.1 h j)
told (r ∷ rest) a (suc i, l, h, j) = or_right (holds r a) (is_in (map kept_of rest) a) (told rest a (i, omega arith, h, j))

same_test : (b c : Bool) → (b ≡ true → c ≡ true) → (c ≡ true → b ≡ true) → b ≡ c
same_test true c f g = sym (f refl)
same_test false true f g = g refl
same_test false false f g = refl

pub kept_runs_are_right : KeptRunsAreRight
kept_runs_are_right file runs kept low = (
  (λ a. same_test (is_in (map kept_of runs) a) (kept_at file a) (λ h. (kept.exact a).1 (found runs a h)) (λ h. told runs a ((kept.exact a).0 h))),
  (λ r c.
      let q = of_map kept_of runs r c in
      let i = q.1.0 in
      let within_list : i < length runs = q.1.1 in
      let is : get_or runs i (0, 0) ≡ q.0 = get_or_default runs i (0, 0) q.0 within_list ∙ q.1.2 in
      subst (λ (z : AddressRun). (z.low ≤ z.high) × (z.high < 2 ^ 32)) q.2
      (subst (λ (z : ℕ × ℕ). (z.0 ≤ z.1) × (z.1 < 2 ^ 32)) is (kept.filled i within_list, low i within_list))),
)
