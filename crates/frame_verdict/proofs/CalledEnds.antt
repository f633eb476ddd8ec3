-- What a run that steps over contracts comes to with the contract steps that it makes.
use Rattle.std.proofs.Common.{◌≡◌, ◌⊎◌, inl, inr, refl, sym, ap, subst, ◌∙◌, arith, ℕ, zero, suc, ◌+◌, ◌-◌, ◌<◌, ◌≤◌, Bool, true, false, List, [], None}
use Rattle.std.specs.Prelude.{◌||◌}
use Rattle.std.proofs.lemmas.Bool.{cases_lt}
use Rattle.bilv_spec.specs.Run.{Place}
use Rattle.frame_spec.specs.Frames.{Frame}
use Rattle.frame_spec.specs.FrameReports.{AreMade, MakesContractStep, WrittenCall}
use Rattle.frame_spec.specs.FrameRuns.{IsOver, Start, Run, Going, Arriving, Calling, Exited, Failed, Turned, Cut, Broken, run}
use Rattle.frame_spec.proofs.OneEnd.{over_stays}
use Rattle.frame_texts_spec.specs.CallReplays.{has_called, is_calling}
use Rattle.frame_texts_spec.proofs.BlocklessReplays.{never_calling}
use Rattle.table_run.specs.CalledRuns.{cause_within}
use Rattle.table_run.specs.MadeCalls.{AreAlike}
use Rattle.frame_verdict.proofs.EndedRuns.{end_named}
use Rattle.frame_verdict.proofs.MadeCauses.{IsUnbroken, none_wrong}

-- a run that has ended is that which is alike
pub alike_over : (x y : Run) → AreAlike x y → IsOver x → x ≡ y
alike_over (Going t n c) y h over = absurd over
alike_over (Arriving t n c) y h over = absurd over
alike_over (Calling t n c) y h over = absurd over
alike_over (Exited at n) y h over = h
alike_over (Failed e at n) y h over = h
alike_over (Turned at n) y h over = h
alike_over (Cut at n) y h over = h
alike_over (Broken l at n) y h over = h

-- ---- contract steps

calling_is : (x : Run) → is_calling x ≡ true → (t : ℕ) × (n : ℕ) × (c : Place) × (x ≡ Calling t n c)
calling_is (Going t n c) h = absurd (cc)
calling_is (Arriving t n c) h = absurd (cc)
calling_is (Calling t n c) h = (t, n, c, refl)
calling_is (Exited at n) h = absurd (cc)
calling_is (Failed e at n) h = absurd (cc)
calling_is (Turned at n) h = absurd (cc)
calling_is (Cut at n) h = absurd (cc)
calling_is (Broken l at n) h = absurd (cc)

module _ (f : Frame) (k : ℕ) (start : Start) where
  -- one was made
  pub has_made : (count : ℕ) → has_called f k start count ≡ true → MakesContractStep f k start
  has_made zero h = absurd (cc)
  has_made (suc n) h = by (has_called f k start n) (is_calling (run f k start n)) refl refl h (λ e. has_made n e)
    where
      by : (a b : Bool) → has_called f k start n ≡ a → is_calling (run f k start n) ≡ b → (a || b) ≡ true →
          (has_called f k start n ≡ true → MakesContractStep f k start) → MakesContractStep f k start
      by true b e g q before = before e
      by false true e g q before = let it = calling_is (run f k start n) g in (n, it.0, it.1, it.2, it.3)
      by false false e g q before = absurd (cc)

  not_before : (count : ℕ) → has_called f k start count ≡ false → (i : ℕ) → i < count → is_calling (run f k start i) ≡ false
  not_before zero h i l = absurd (omega arith)
  not_before (suc n) h i l = by (has_called f k start n) (is_calling (run f k start n)) refl refl h (λ e m. not_before n e i m) (cases_lt i n)
    where
      by : (a b : Bool) → has_called f k start n ≡ a → is_calling (run f k start n) ≡ b → (a || b) ≡ false →
          (has_called f k start n ≡ false → i < n → is_calling (run f k start i) ≡ false) → (i < n) ⊎ (n ≤ i) → is_calling (run f k start i) ≡ false
      by true b e g q before o = absurd (let z : true ≡ false = q in cc)
      by false true e g q before o = absurd (let z : true ≡ false = q in cc)
      by false false e g q before (inl m) = before e m
      by false false e g q before (inr m) = let same : n ≡ i = omega arith in subst (λ (z : ℕ). is_calling (run f k start z) ≡ false) same g

  -- none was, where the run has ended
  pub never_made : (count : ℕ) → IsOver (run f k start count) → has_called f k start count ≡ false → ¬ MakesContractStep f k start
  never_made count over h (steps, t, n, c, is) = by (cases_lt steps count)
    where
      by : (steps < count) ⊎ (count ≤ steps) → ⊥
      by (inl l) = let z : true ≡ false = sym (ap is_calling is) ∙ not_before count h steps l in cc
      by (inr m) =
          let place : (steps - count) + count ≡ steps = omega arith in
          let stays = over_stays f k start count (steps - count) (run f k start count) over refl in
          subst IsOver (sym stays ∙ ap (run f k start) place ∙ is) over

  -- none is where no contract is stepped over
  pub none_stepped : f.stepped ≡ [] → ¬ MakesContractStep f k start
  none_stepped plain (steps, t, n, c, is) = let z : true ≡ false = sym (ap is_calling is) ∙ never_calling f plain k start steps in cc

  -- so none is shown
  pub made_none : f.stepped ≡ [] → AreMade f k start []
  made_none plain = record {
    each = λ i d l. absurd (omega arith);
    whole = λ steps turns n c is quiet. absurd (none_stepped plain (steps, turns, n, c, is));
  }

  -- ---- blocks

  broken_or : (x : Run) → IsUnbroken x ⊎ ((l : ℕ) × (at : ℕ) × (n : ℕ) × (x ≡ Broken l at n))
  broken_or (Going t n c) = inl tt
  broken_or (Arriving t n c) = inl tt
  broken_or (Calling t n c) = inl tt
  broken_or (Exited at n) = inl tt
  broken_or (Failed e at n) = inl tt
  broken_or (Turned at n) = inl tt
  broken_or (Cut at n) = inl tt
  broken_or (Broken l at n) = inr (l, at, n, refl)

  -- Where the run has ended and its contract steps are shown, no block is wrong; or it has ended in what is no run.
  pub cause_none : (points : ℕ) → 1 ≤ points → IsOver (run f k start points) → (calls : List WrittenCall) → AreMade f k start calls →
      (cause_within f k start calls (points - 1) ≡ None) ⊎ (end_named (run f k start points) ≡ None)
  cause_none points some over calls made = elim (broken_or (run f k start points)) [
    | inl u ↦ (let e : points ≡ points - 1 + 1 = omega arith in
        inl (none_wrong f k start calls made (run f k start points) (points - 1) over u (ap (run f k start) (sym e))))
    | inr b ↦ inr (ap end_named b.3)
  ]
