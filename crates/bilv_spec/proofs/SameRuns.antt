-- A run that goes on does so under each bound that is not below its steps.
use Rattle.std.proofs.Common.{◌≡◌, ◌==◌, ℕ, zero, suc, ◌+◌, ◌<◌, ◌≤◌, refl, ap, sym, ◌∙◌, arith, Bool, true, false, nat_le}
use Rattle.std.proofs.lemmas.Bool.Decides.{nat_tests}
use Rattle.bilv_spec.specs.Run.{Program, Place, Run, Going, Exited, Failed, Turned, Step, Stops, Arrives, Exits, run, one_more, after_step, arrive, turn, step}
use Rattle.machine_spec.specs.Endings.{Start}

-- a step that goes on raises the number by one, makes at most one more backward transfer, and none that is forbidden
goes_on : (k turns n at : ℕ) (s : Step) (t m : ℕ) (c : Place) → after_step k turns n at s ≡ Going t m c →
    (m ≡ n + 1) × (t ≤ turns + 1) × ((l : ℕ) → turns < l → after_step l turns n at s ≡ Going t m c)
goes_on k turns n at (Stops e) t m c h = absurd (let x : Failed e at n ≡ Going t m c = h in cc)
goes_on k turns n at (Exits s) t m c h = absurd (let x : Exited at n ≡ Going t m c = h in cc)
goes_on k turns n at (Arrives d) t m c h = by_address (nat_le d.state.pc at) h
  where
    by_bound : (b : Bool) → turn b turns n at d ≡ Going t m c →
        (m ≡ n + 1) × (t ≤ turns + 1) × ((l : ℕ) → turns < l → turn (turns == l) turns n at d ≡ Going t m c)
    by_bound true h = absurd (let x : Turned at n ≡ Going t m c = h in cc)
    by_bound false h =
        let first : turns + 1 ≡ t = cc in
        let second : n + 1 ≡ m = cc in
        (sym second, omega (arith, first), λ l less. let f : (turns == l) ≡ false = grind (arith, nat_tests) in rw f h)

    by_address : (b : Bool) → arrive b k turns n at d ≡ Going t m c →
        (m ≡ n + 1) × (t ≤ turns + 1) × ((l : ℕ) → turns < l → arrive b l turns n at d ≡ Going t m c)
    by_address false h =
        let first : turns ≡ t = cc in
        let second : n + 1 ≡ m = cc in
        (sym second, omega (arith, first), λ l less. h)
    by_address true h = by_bound (turns == k) h

module _ (p : Program) (start : Start) where
  -- A run that goes on has made as many steps as its number says, and no more backward transfers; it does the same under a bound that is not below its steps.
  abbrev pub IsSame : (l n t m : ℕ) → Place → Type 0
  IsSame l n t m c = (m ≡ n) × (t ≤ n) × (run p l start n ≡ Going t m c)

  same_step : (k l n : ℕ) → suc n ≤ l → ((t m : ℕ) (c : Place) → run p k start n ≡ Going t m c → IsSame l n t m c) → (r : Run) → run p k start n ≡ r →
      (t m : ℕ) (c : Place) → one_more p k start r ≡ Going t m c → IsSame l (suc n) t m c
  unfolding run
  same_step k l n room known (Going u i d) e t m c h =
      let before = known u i d e in
      let here = goes_on k u i d.state.pc (step p start.state d (start.choices i)) t m c h in
      (omega (arith, here.0, before.0), omega (arith, here.1, before.1), ap (one_more p l start) before.2 ∙ here.2 l (omega (arith, before.1, room)))
  same_step k l n room known (Exited at i) e t m c h = absurd (let x : Exited at i ≡ Going t m c = h in cc)
  same_step k l n room known (Failed f at i) e t m c h = absurd (let x : Failed f at i ≡ Going t m c = h in cc)
  same_step k l n room known (Turned at i) e t m c h = absurd (let x : Turned at i ≡ Going t m c = h in cc)

  pub same_run : (k l n : ℕ) → n ≤ l → (t m : ℕ) (c : Place) → run p k start n ≡ Going t m c → IsSame l n t m c
  unfolding run
  same_run k l zero room t m c h = let first : 0 ≡ t = cc in let second : 0 ≡ m = cc in (sym second, omega (arith, first), h)
  same_run k l (suc n) room t m c h = same_step k l n room (same_run k l n (omega (arith, room))) (run p k start n) refl t m c h
