-- Addresses of known bytes, by the runs that have them.
use Rattle.std.proofs.Common.{◌≡◌, refl, sym, subst, ◌∙◌, ℕ, zero, suc, ◌+◌, ◌-◌, ◌<◌, ◌≤◌, ◌⊎◌, inl, inr, Bool, true, false, List, [], ◌∷◌, Some, get_or, map, arith}
use Rattle.std.specs.Prelude.{Option, ◌&&◌, nat_le, nat_lt, find, if◌then◌else◌, length}
use Rattle.std.specs.List.Sorted.{IsPartitionPoint}
use Rattle.std.proofs.lemmas.Bool.{cases_lt, ltb-false, ltb-true}
use Rattle.std.proofs.lemmas.Bool.Decides.{nat_tests}
use Rattle.walk_spec.specs.Unrolled.{ByteRun, byte_in_run}
use Rattle.known_bytes.specs.declared.listing.Known.{Known}
use Rattle.known_bytes.specs.Runs.{AreRuns, run_of}
use Rattle.asked_bytes.specs.AskedBytes.{HasByte}

head_by : (t : Bool) (r : ByteRun) (rest : Option ByteRun) (a : ℕ) → (t ≡ false → (b : ℕ) × (byte_in_run a rest ≡ Some b)) →
    (b : ℕ) × (byte_in_run a (if t then Some r else rest) ≡ Some b)
head_by true r rest a h = (_, refl)
head_by false r rest a h = h refl

abbrev pub none : Known
none = record { first = 0; last = 0; bytes = record { ref_ptr = (0, 0); now = [] } }

-- an address within one of the runs is known
pub within_run : (runs : List Known) (i a : ℕ) (d : Known) → i < length runs → (get_or runs i d).first ≤ a → a ≤ (get_or runs i d).last → HasByte runs a
within_run [] i a d lt low high = absurd (omega arith)
within_run (r ∷ rs) zero a d lt low high =
    head_by (nat_le r.first a && nat_lt a (r.first + (r.last - r.first + 1))) (run_of r)
    (find (λ (q : ByteRun). nat_le q.at a && nat_lt a (q.at + q.count)) (map run_of rs)) a (λ not. absurd (differ (sym is ∙ not)))
  where
    is : (nat_le r.first a && nat_lt a (r.first + (r.last - r.first + 1))) ≡ true
    is = grind (arith, nat_tests)

    differ : true ≡ false → ⊥
    differ e = cc
within_run (r ∷ rs) (suc i) a d lt low high =
    head_by (nat_le r.first a && nat_lt a (r.first + (r.last - r.first + 1))) (run_of r)
    (find (λ (q : ByteRun). nat_le q.at a && nat_lt a (q.at + q.count)) (map run_of rs)) a (λ not. within_run rs i a d (omega arith) low high)

head_of : (t : Bool) (r : ByteRun) (rest : Option ByteRun) (a : ℕ) → (b : ℕ) × (byte_in_run a (if t then Some r else rest) ≡ Some b) →
    (t ≡ true) ⊎ ((b : ℕ) × (byte_in_run a rest ≡ Some b))
head_of true r rest a h = inl refl
head_of false r rest a h = inr h

-- the run at a place has an address
abbrev HasAt : List Known → (k a : ℕ) → Type 0
HasAt runs k a = (k < length runs) × ((d : Known) → ((get_or runs k d).first ≤ a) × (a < (get_or runs k d).first + ((get_or runs k d).last - (get_or runs k d).first + 1)))

-- a known address is within one of the runs
run_with : (runs : List Known) (a : ℕ) → HasByte runs a → (k : ℕ) × HasAt runs k a
run_with [] a (b, e) = absurd (cc)
run_with (r ∷ rs) a h =
    elim (head_of (nat_le r.first a && nat_lt a (r.first + (r.last - r.first + 1))) (run_of r)
    (find (λ (q : ByteRun). nat_le q.at a && nat_lt a (q.at + q.count)) (map run_of rs)) a h) [
      | inl is ↦ (0, (omega arith, λ d. (grind (arith, nat_tests), grind (arith, nat_tests))))
      | inr rest ↦ (let (k, q) = run_with rs a rest in (suc k, (let lt = q.0 in omega (arith, lt), λ d. q.1 d)))
    ]

-- the ends of runs do not fall
pub ends_rise : (runs : List Known) → AreRuns runs → (i j : ℕ) (d : Known) → i ≤ j → j < length runs → (get_or runs i d).last ≤ (get_or runs j d).last
ends_rise runs are i j d le lt = elim (cases_lt i j) as (λ _. (get_or runs i d).last ≤ (get_or runs j d).last) [
  | inl less ↦ (let behind = are.rising i j d less lt in let some = are.some j d lt in omega (arith, behind, some))
  | inr more ↦ (let same : i ≡ j = omega (arith, le, more) in subst (λ (n : ℕ). (get_or runs i d).last ≤ (get_or runs n d).last) same (omega arith))
]

-- where the runs before a place are those that end before an address, no run but the one there can have the address
pub outside : (runs : List Known) → AreRuns runs → (i a : ℕ) →
    IsPartitionPoint (λ (r : Known). nat_lt r.last a ≡ true) (λ (r : Known). nat_lt r.last a ≡ false) runs i →
    (i < length runs → (get_or runs i none).first ≤ a → a ≤ (get_or runs i none).last → ⊥) → ¬ HasByte runs a
outside runs are i a point not has =
    let (k, (within, lies)) = run_with runs a has in
    let low = (lies none).0 in
    let high = (lies none).1 in
    let some = are.some k none within in
    elim (cases_lt k i) as (λ _. ⊥) [
      | inl early ↦ (let ends = ltb-true _ _ (point.0 k none (omega arith) early) in omega (arith, ends, low, high, some))
      | inr late ↦ elim (cases_lt i k) as (λ _. ⊥) [
        | inl behind ↦
            let begins = are.rising i k none behind within in
            let ends = ltb-false _ _ (point.1 i none (omega arith) (omega (arith, behind, within))) in
            omega (arith, begins, ends, low)
        | inr here ↦
            let same : k ≡ i = omega (arith, late, here) in
            let within_here : i < length runs = omega (arith, same, within) in
            let first : (get_or runs i none).first ≤ a = subst (λ (n : ℕ). (get_or runs n none).first ≤ a) same low in
            not within_here first (ltb-false _ _ (point.1 i none (omega arith) within_here))
      ]
    ]
