-- The byte that a rising list gives over a fill.
use Rattle.std.proofs.Common.{inl, inr, ◌≡◌, ℕ, zero, suc, ◌<◌, refl, ap, sym, arith, List, [], ◌∷◌, length, get_or, true, false, ne_eqb, eq-eqb}
use Rattle.std.specs.Prelude.{◌==◌, ◌≢◌, nat_lt}
use Rattle.std.specs.List.Sorted.{IsNonDecreasingBy, IsPartitionPoint}
use Rattle.std.proofs.lemmas.Bool.{ltb-true, ltb-false}
use Rattle.std.proofs.Math.Nat.{eq-or-lt_of_le}
use Rattle.byte_mem.proofs.Places.{nowhere}
use Rattle.machine_spec.specs.StateText.{AreRising}
use Rattle.table_run.specs.Traces.{byte_over}

over_at : (fill : ℕ) (es : List (ℕ × ℕ)) (i a : ℕ) (d : ℕ × ℕ) → ((k : ℕ) (d : ℕ × ℕ) → k < i → (get_or es k d).0 < a) → i < length es →
    (get_or es i d).0 ≡ a → byte_over fill es a ≡ (get_or es i d).1
over_at fill [] i a d below w e = absurd (omega arith)
over_at fill (x ∷ es) zero a d below w e = let t : (a == x.0) ≡ true = eq-eqb a x.0 (sym e) in rw t refl
over_at fill (x ∷ es) (suc i) a d below w e =
    let first = below 0 (0, 0) (omega arith) in
    let f : (a == x.0) ≡ false = ne_eqb a x.0 (λ q. absurd (omega arith)) in
    rw f (over_at fill es i a d (λ k d h. below (suc k) d (omega arith)) (omega arith) e)

over_none : (fill : ℕ) (es : List (ℕ × ℕ)) (a : ℕ) → ((k : ℕ) (d : ℕ × ℕ) → k < length es → (get_or es k d).0 ≢ a) → byte_over fill es a ≡ fill
over_none fill [] a none = refl
over_none fill (x ∷ es) a none =
    let f : (a == x.0) ≡ false = ne_eqb a x.0 (λ q. none 0 (0, 0) (omega arith) (sym q)) in
    rw f (over_none fill es a (λ k d h. none (suc k) d (omega arith)))

-- addresses that rise do not fall
pub rising_by : (es : List (ℕ × ℕ)) → AreRising es → IsNonDecreasingBy (λ x. x.0) es
rising_by es rising i j d le within = elim (eq-or-lt_of_le le) [
  | inl same ↦ rw (ap (λ k. (get_or es k d).0) same) (omega arith)
  | inr less ↦ let r = rising i j d less within in omega arith
]

-- the byte by the place of the first address that is not below
module _ (fill : ℕ) (es : List (ℕ × ℕ)) (i a : ℕ) (rising : AreRising es)
    (point : IsPartitionPoint (λ (x : ℕ × ℕ). nat_lt x.0 a ≡ true) (λ (x : ℕ × ℕ). nat_lt x.0 a ≡ false) es i) where
  below : (k : ℕ) (d : ℕ × ℕ) → k < i → (get_or es k d).0 < a
  below k d less = ltb-true _ _ (point.0 k d (omega arith) less)

  pub over_behind : i ≡ length es → byte_over fill es a ≡ fill
  over_behind end = over_none fill es a (λ k d w is. (let b = below k d (omega arith) in absurd (omega arith)))

  pub over_beside : (e : ℕ × ℕ) → i < length es → (get_or es i e).0 ≢ a → byte_over fill es a ≡ fill
  over_beside e inside other =
      over_none fill es a (nowhere es i a e rising below (λ k d from w. ltb-false _ _ (point.1 k d from w)) inside other)

  pub over_here : (e : ℕ × ℕ) → i < length es → (get_or es i e).0 ≡ a → byte_over fill es a ≡ (get_or es i e).1
  over_here e inside at = over_at fill es i a e below inside at
