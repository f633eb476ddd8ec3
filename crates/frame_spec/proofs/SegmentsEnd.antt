-- Each segment ends.
use Rattle.std.proofs.Common.{◌≡◌, ℕ, zero, suc, ◌+◌, ◌*◌, ◌<◌, ◌≤◌, refl, ap, sym, subst, arith, [], Option, Some, None, Bool, true, false}
use Rattle.std.specs.Prelude.{◌==◌, nat_le, if◌then◌else◌}
use Rattle.std.proofs.lemmas.Bool.Decides.{nat_tests}
use Rattle.bilv_spec.specs.Run.{Place, false_assert}
use Rattle.bilv_spec.specs.Verdict.{IsEntryState}
use Rattle.bilv_spec.specs.PointLaws.{HasLawfulRows, ReadsMemory}
use Rattle.frame_spec.specs.Frames.{Frame, IsContent, is_head}
use Rattle.frame_spec.specs.FrameRuns.{Start, Run, Going, Arriving, Calling, Exited, Failed, Turned, Cut, Broken, FrameStep, Halts, GoesTo, Reaches, Calls, Leaves, Breaks, frame_step, contract_step, after_step, arrive, turn, arrival, one_more, begins, run, IsOver}
use Rattle.frame_spec.specs.FrameVerdict.{IsOrigin}
use Rattle.frame_spec.proofs.ByFile.{Stands, Good, good}

module _ (k : ℕ) where
  -- turns and address have risen with each step
  abbrev Measured : ℕ → Run → Type 0
  Measured n (Going t m c) = (t ≤ k) × (n ≤ t * 4294967296 + c.state.pc)
  Measured n (Calling t m c) = (t ≤ k) × (n ≤ t * 4294967296 + c.state.pc)
  Measured n r = Unit {0}

  module _ (next : ℕ → ℕ → Place → Run)
      (is : (n t m : ℕ) (c : Place) → t ≤ k → n ≤ t * 4294967296 + c.state.pc → Measured n (next t m c)) where
    turned : (b : Bool) (n t m at : ℕ) (c : Place) → (t == k) ≡ b → t ≤ k → at < 4294967296 → n ≤ t * 4294967296 + at → Measured (suc n) (turn next b t m at c)
    turned true n t m at c e l low h = tt
    turned false n t m at c e l low h =
        let more : t + 1 ≤ k = grind (arith, nat_tests) in is (suc n) (t + 1) (m + 1) c more (omega arith)

    arrived : (b : Bool) (n t m at : ℕ) (c : Place) → nat_le c.state.pc at ≡ b → t ≤ k → at < 4294967296 → n ≤ t * 4294967296 + at →
        Measured (suc n) (arrive next b k t m at c)
    arrived false n t m at c e l low h =
        let up : at < c.state.pc = grind (arith, nat_tests) in is (suc n) t (m + 1) c l (omega arith)
    arrived true n t m at c e l low h = turned (t == k) n t m at c refl l low h

  stepped : (n t m at : ℕ) (s : FrameStep) → t ≤ k → at < 4294967296 → n ≤ t * 4294967296 + at → Measured (suc n) (after_step k t m at s)
  stepped n t m at (Halts e) l low h = tt
  stepped n t m at (GoesTo c) l low h = arrived Going (λ n t m c l h. (l, h)) (nat_le c.state.pc at) n t m at c refl l low h
  stepped n t m at (Reaches c) l low h = tt
  stepped n t m at (Calls c) l low h = arrived Calling (λ n t m c l h. (l, h)) (nat_le c.state.pc at) n t m at c refl l low h
  stepped n t m at (Leaves s) l low h = tt
  stepped n t m at (Breaks e) l low h = tt

module _ (f : Frame) (lawful : HasLawfulRows f.program) (memory : ReadsMemory f.program) (k : ℕ) (start : Start) (is : IsEntryState f.program start.state)
    (origin : IsOrigin f k start.state start.head) (given : (i : ℕ) → IsContent (start.given i)) where
  over_measured : (n : ℕ) (o : Option ℕ) (m at : ℕ) → Measured k n (arrival f o m at)
  over_measured n None m at = tt
  over_measured n (Some l) m at = tt

  more_measured : (n : ℕ) (r : Run) → Stands (Good f lawful memory) r → Measured k n r → Measured k (suc n) (one_more f k start r)
  more_measured n (Going t m c) g h = stepped k n t m c.state.pc (frame_step f start.state c (start.choices m)) h.0 g.0.1.pc h.1
  more_measured n (Calling t m c) g h = stepped k n t m c.state.pc (contract_step f start.state c (start.given m)) h.0 g.0.1.pc h.1
  more_measured n (Arriving t m c) g h = over_measured (suc n) (false_assert f.program.machine.endian f.program.notes.asserts c.state start.state) m c.state.pc
  more_measured n (Exited at m) g h = tt
  more_measured n (Failed e at m) g h = tt
  more_measured n (Turned at m) g h = tt
  more_measured n (Cut at m) g h = tt
  more_measured n (Broken l at m) g h = tt

  begins_measured : (o : Option Place) → Measured k 0 (begins f start.state o)
  begins_measured (Some c) = (omega arith, omega arith)
  begins_measured None = by (is_head f start.state.pc)
    where
      by : (b : Bool) → Measured k 0 (if b then Arriving 0 0 (record { state = start.state; stack = [] }) else Going 0 0
          (record { state = start.state; stack = [] }))
      by true = tt
      by false = (omega arith, omega arith)

  measured : (n : ℕ) → Measured k n (run f k start n)
  unfolding run
  measured zero = begins_measured start.head
  measured (suc n) = more_measured n (run f k start n) (good f lawful memory k start is origin given n) (measured n)

  abbrev End : Type 0
  End = (n : ℕ) × IsOver (run f k start n)

  over_arrival : (o : Option ℕ) (m at : ℕ) → IsOver (arrival f o m at)
  over_arrival None m at = tt
  over_arrival (Some l) m at = tt

  behind : (n t m : ℕ) (c : Place) → run f k start n ≡ Arriving t m c →
      run f k start (suc n) ≡ arrival f (false_assert f.program.machine.endian f.program.notes.asserts c.state start.state) m c.state.pc
  unfolding run
  behind n t m c e = ap (one_more f k start) e

  ended : (n : ℕ) (r : Run) → run f k start n ≡ r → Stands (Good f lawful memory) r → Measured k n r → (k + 1) * 4294967296 ≤ n → End
  ended n (Going t m c) e g h l = let low = g.0.1.pc in let a = h.0 in let b = h.1 in absurd (omega arith)
  ended n (Calling t m c) e g h l = let low = g.0.1.pc in let a = h.0 in let b = h.1 in absurd (omega arith)
  ended n (Arriving t m c) e g h l = (
    suc n,
    subst IsOver (sym (behind n t m c e))
        (over_arrival (false_assert f.program.machine.endian f.program.notes.asserts c.state start.state) m c.state.pc),
  )
  ended n (Exited at m) e g h l = (n, subst IsOver (sym e) tt)
  ended n (Failed x at m) e g h l = (n, subst IsOver (sym e) tt)
  ended n (Turned at m) e g h l = (n, subst IsOver (sym e) tt)
  ended n (Cut at m) e g h l = (n, subst IsOver (sym e) tt)
  ended n (Broken x at m) e g h l = (n, subst IsOver (sym e) tt)

  pub segments_end : End
  segments_end =
      let n : ℕ = (k + 1) * 4294967296 in
      ended n (run f k start n) refl (good f lawful memory k start is origin given n) (measured n) (omega arith)
