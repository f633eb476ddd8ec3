-- How a run of a frame ends, and that it ends alike under two bounds on backward transfers.
use Rattle.std.proofs.Common.{◌≡◌, ℕ, zero, suc, ◌+◌, ◌-◌, ◌<◌, ◌≤◌, refl, ap, sym, ◌∙◌, subst, arith, zero-add, Bool, true, false, [], Option, Some, None}
use Rattle.std.specs.Prelude.{◌==◌, if◌then◌else◌, nat_le, nat_lt}
use Rattle.std.proofs.lemmas.Bool.Decides.{nat_tests}
use Rattle.std.proofs.Math.Nat.{suc-add}
use Rattle.word_spec.specs.State.{State}
use Rattle.bilv_spec.specs.Run.{Place, false_assert}
use Rattle.frame_spec.specs.Frames.{Frame, is_head}
use Rattle.frame_spec.specs.FrameReports.{MakesContractStep}
use Rattle.frame_spec.specs.FrameRuns.{FrameStep, Halts, GoesTo, Reaches, Calls, Leaves, Breaks, IsOver, Start, Run, Going, Arriving, Calling, Exited, Failed, Turned, Cut, Broken, after_step, arrival, arrive, begins, contract_step, frame_step, one_more, run, turn}
use Rattle.frame_spec.proofs.OneEnd.{over_stays}
use Rattle.frame_spec.proofs.Prefix.{Numbered, numbered}

-- ---- how a run ends

-- the number of the last step of a run that has ended
abbrev pub LastIs : Run → ℕ → Type 0
LastIs (Going t m c) n = ⊥
LastIs (Arriving t m c) n = ⊥
LastIs (Calling t m c) n = ⊥
LastIs (Exited at m) n = m ≡ n
LastIs (Failed e at m) n = m ≡ n
LastIs (Turned at m) n = m ≡ n
LastIs (Cut at m) n = m ≡ n
LastIs (Broken l at m) n = m ≡ n

module _ (f : Frame) (k : ℕ) (start : Start) where
  after_last : (t m at : ℕ) (s : FrameStep) → IsOver (after_step k t m at s) → LastIs (after_step k t m at s) m
  after_last t m at (Halts e) over = refl
  after_last t m at (Reaches c) over = absurd over
  after_last t m at (Leaves s) over = refl
  after_last t m at (Breaks l) over = refl
  after_last t m at (GoesTo c) over = by_tests (nat_le c.state.pc at) over
    where
      by_turn : (b : Bool) → IsOver (turn Going b t m at c) → LastIs (turn Going b t m at c) m
      by_turn true over = refl
      by_turn false over = absurd over

      by_tests : (b : Bool) → IsOver (arrive Going b k t m at c) → LastIs (arrive Going b k t m at c) m
      by_tests false over = absurd over
      by_tests true over = by_turn (t == k) over
  after_last t m at (Calls c) over = by_tests (nat_le c.state.pc at) over
    where
      by_turn : (b : Bool) → IsOver (turn Calling b t m at c) → LastIs (turn Calling b t m at c) m
      by_turn true over = refl
      by_turn false over = absurd over

      by_tests : (b : Bool) → IsOver (arrive Calling b k t m at c) → LastIs (arrive Calling b k t m at c) m
      by_tests false over = absurd over
      by_tests true over = by_turn (t == k) over

  arrival_last : (o : Option ℕ) (m at : ℕ) → LastIs (arrival f o m at) m
  arrival_last None m at = refl
  arrival_last (Some l) m at = refl

  begins_on : (s : State) (o : Option Place) → IsOver (begins f s o) → ⊥
  begins_on s (Some c) over = over
  begins_on s None over = by_test (is_head f s.pc) over
    where
      by_test : (b : Bool) → IsOver (if b then Arriving 0 0 (record { state = s; stack = [] }) else Going 0 0 (record { state = s; stack = [] })) → ⊥
      by_test true over = over
      by_test false over = over

  same_last : (r : Run) (m n : ℕ) → LastIs r m → LastIs r n → m ≡ n
  same_last (Going t i c) m n a b = absurd a
  same_last (Arriving t i c) m n a b = absurd a
  same_last (Calling t i c) m n a b = absurd a
  same_last (Exited at i) m n a b = sym a ∙ b
  same_last (Failed e at i) m n a b = sym a ∙ b
  same_last (Turned at i) m n a b = sym a ∙ b
  same_last (Cut at i) m n a b = sym a ∙ b
  same_last (Broken l at i) m n a b = sym a ∙ b

  -- a run that ends does so in the step of its number
  pub ended : (steps : ℕ) (r : Run) → IsOver r → run f k start steps ≡ r → (n : ℕ) → LastIs r n → run f k start (n + 1) ≡ r
  unfolding run
  ended zero r over e n last = absurd (begins_on start.state start.head (subst IsOver (sym e) over))
  ended (suc i) r over e n last = by_run (run f k start i) refl (numbered f k start i) e (λ x. ended i r over x n last)
    where
      from_last : (x : Run) → one_more f k start x ≡ r → LastIs (one_more f k start x) i → run f k start i ≡ x → run f k start (n + 1) ≡ r
      from_last x e at is =
          let place : suc i ≡ n + 1 = omega (arith, same_last r i n (subst (λ y. LastIs y i) e at) last) in
          ap (run f k start) (sym place) ∙ ap (one_more f k start) is ∙ e

      by_run : (x : Run) → run f k start i ≡ x → Numbered i x → one_more f k start x ≡ r → (run f k start i ≡ r → run f k start (n + 1) ≡ r) →
          run f k start (n + 1) ≡ r
      by_run (Going t m c) is number e before =
          from_last (Going t m c) e
          (subst (λ z. LastIs (one_more f k start (Going t m c)) z) number
          (after_last t m c.state.pc (frame_step f start.state c (start.choices m)) (subst IsOver (sym e) over))) is
      by_run (Arriving t m c) is number e before =
          from_last (Arriving t m c) e
          (subst (λ z. LastIs (one_more f k start (Arriving t m c)) z) number
          (arrival_last (false_assert f.program.machine.endian f.program.notes.asserts c.state start.state) m c.state.pc)) is
      by_run (Calling t m c) is number e before =
          from_last (Calling t m c) e
          (subst (λ z. LastIs (one_more f k start (Calling t m c)) z) number
          (after_last t m c.state.pc (contract_step f start.state c (start.given m)) (subst IsOver (sym e) over))) is
      by_run (Exited at m) is number e before = before (is ∙ e)
      by_run (Failed x at m) is number e before = before (is ∙ e)
      by_run (Turned at m) is number e before = before (is ∙ e)
      by_run (Cut at m) is number e before = before (is ∙ e)
      by_run (Broken l at m) is number e before = before (is ∙ e)

-- ---- runs under two bounds

abbrev pub IsNotTurned : Run → Type 0
IsNotTurned (Going t m c) = Unit {0}
IsNotTurned (Arriving t m c) = Unit {0}
IsNotTurned (Calling t m c) = Unit {0}
IsNotTurned (Exited at m) = Unit {0}
IsNotTurned (Failed e at m) = Unit {0}
IsNotTurned (Turned at m) = ⊥
IsNotTurned (Cut at m) = Unit {0}
IsNotTurned (Broken l at m) = Unit {0}

-- so many backward transfers were made at most
abbrev pub TurnsIn : ℕ → Run → Type 0
TurnsIn n (Going t m c) = t ≤ n
TurnsIn n (Arriving t m c) = t ≤ n
TurnsIn n (Calling t m c) = t ≤ n
TurnsIn n (Exited at m) = Unit {0}
TurnsIn n (Failed e at m) = Unit {0}
TurnsIn n (Turned at m) = Unit {0}
TurnsIn n (Cut at m) = Unit {0}
TurnsIn n (Broken l at m) = Unit {0}

abbrev pub IsAlike : ℕ → Run → Run → Type 0
IsAlike n one other = (one ≡ other) × TurnsIn n other

module _ (f : Frame) (k m : ℕ) (start : Start) where
  turns_alike : (next : ℕ → ℕ → Place → Run) → ((t i n : ℕ) (c : Place) → t ≤ n → TurnsIn n (next t i c)) → (t i at n : ℕ) (c : Place) → t ≤ n → n < m →
      (b u : Bool) → (t == k) ≡ b → (t == m) ≡ u → IsNotTurned (turn next b t i at c) → IsAlike (suc n) (turn next u t i at c) (turn next b t i at c)
  turns_alike next fits t i at n c few less true u same other not = absurd not
  turns_alike next fits t i at n c few less false true same other not = absurd (let e : t ≡ m = grind (arith, nat_tests, other) in omega (arith, e, few, less))
  turns_alike next fits t i at n c few less false false same other not = (refl, fits (t + 1) (i + 1) (suc n) c (omega (arith, few)))

  arrives_alike : (next : ℕ → ℕ → Place → Run) → ((t i n : ℕ) (c : Place) → t ≤ n → TurnsIn n (next t i c)) → (t i at n : ℕ) (c : Place) → t ≤ n → n < m →
      (b : Bool) → IsNotTurned (arrive next b k t i at c) → IsAlike (suc n) (arrive next b m t i at c) (arrive next b k t i at c)
  arrives_alike next fits t i at n c few less false not = (refl, fits t (i + 1) (suc n) c (omega (arith, few)))
  arrives_alike next fits t i at n c few less true not = turns_alike next fits t i at n c few less (t == k) (t == m) refl refl not

  steps_alike : (t i at n : ℕ) (s : FrameStep) → t ≤ n → n < m → IsNotTurned (after_step k t i at s) →
      IsAlike (suc n) (after_step m t i at s) (after_step k t i at s)
  steps_alike t i at n (Halts e) few less not = (refl, tt)
  steps_alike t i at n (GoesTo c) few less not = arrives_alike Going (λ t i n c h. h) t i at n c few less (nat_le c.state.pc at) not
  steps_alike t i at n (Reaches c) few less not = (refl, (let h : t ≤ suc n = omega (arith, few) in h))
  steps_alike t i at n (Calls c) few less not = arrives_alike Calling (λ t i n c h. h) t i at n c few less (nat_le c.state.pc at) not
  steps_alike t i at n (Leaves s) few less not = (refl, tt)
  steps_alike t i at n (Breaks l) few less not = (refl, tt)

  arrival_alike : (o : Option ℕ) (n i at : ℕ) → TurnsIn n (arrival f o i at)
  arrival_alike None n i at = tt
  arrival_alike (Some l) n i at = tt

  more_alike : (n : ℕ) (x : Run) → n < m → TurnsIn n x → IsNotTurned (one_more f k start x) →
      IsAlike (suc n) (one_more f m start x) (one_more f k start x)
  more_alike n (Going t i c) less few not = steps_alike t i c.state.pc n (frame_step f start.state c (start.choices i)) few less not
  more_alike n (Arriving t i c) less few not =
      (refl, arrival_alike (false_assert f.program.machine.endian f.program.notes.asserts c.state start.state) (suc n) i c.state.pc)
  more_alike n (Calling t i c) less few not = steps_alike t i c.state.pc n (contract_step f start.state c (start.given i)) few less not
  more_alike n (Exited at i) less few not = (refl, tt)
  more_alike n (Failed e at i) less few not = (refl, tt)
  more_alike n (Turned at i) less few not = (refl, tt)
  more_alike n (Cut at i) less few not = (refl, tt)
  more_alike n (Broken l at i) less few not = (refl, tt)

  begins_alike : (s : State) (o : Option Place) → TurnsIn 0 (begins f s o)
  begins_alike s (Some c) = omega arith
  begins_alike s None = by_test (is_head f s.pc)
    where
      by_test : (b : Bool) → TurnsIn 0 (if b then Arriving 0 0 (record { state = s; stack = [] }) else Going 0 0 (record { state = s; stack = [] }))
      by_test true = omega arith
      by_test false = omega arith

  -- a run that has turned stays so
  not_before : (x : Run) → IsNotTurned (one_more f k start x) → IsNotTurned x
  not_before (Going t i c) not = tt
  not_before (Arriving t i c) not = tt
  not_before (Calling t i c) not = tt
  not_before (Exited at i) not = tt
  not_before (Failed e at i) not = tt
  not_before (Turned at i) not = not
  not_before (Cut at i) not = tt
  not_before (Broken l at i) not = tt

  -- within the steps of the other bound both are one
  pub runs_alike : (n : ℕ) → n ≤ m → IsNotTurned (run f k start n) → IsAlike n (run f m start n) (run f k start n)
  unfolding run
  runs_alike zero few not = (refl, begins_alike start.state start.head)
  runs_alike (suc n) few not =
      let before = runs_alike n (omega (arith, few)) (not_before (run f k start n) not) in
      let more = more_alike n (run f k start n) (omega (arith, few)) before.1 not in
      (ap (one_more f m start) before.0 ∙ more.0, more.1)

  -- a run that has not turned had not before
  pub not_turned : (d i : ℕ) → IsNotTurned (run f k start (d + i)) → IsNotTurned (run f k start i)
  unfolding run
  not_turned zero i not = subst (λ j. IsNotTurned (run f k start j)) (zero-add i) not
  not_turned (suc d) i not = not_turned d i (not_before (run f k start (d + i)) (subst (λ j. IsNotTurned (run f k start j)) (suc-add d i) not))

module _ (f : Frame) (k : ℕ) (start : Start) where
  -- a contract step is made before the end
  pub made_before : (r : Run) (n steps : ℕ) → IsOver r → LastIs r n → run f k start steps ≡ r → (c : MakesContractStep f k start) → c.0 < n + 1
  made_before r n steps over last is c = by_order (nat_lt c.0 (n + 1)) refl
    where
      by_order : (t : Bool) → nat_lt c.0 (n + 1) ≡ t → c.0 < n + 1
      by_order true t = grind (arith, nat_tests, t)
      by_order false t =
          let place : (c.0 - (n + 1)) + (n + 1) ≡ c.0 = grind (arith, nat_tests, t) in
          let stays = over_stays f k start (n + 1) (c.0 - (n + 1)) r over (ended f k start steps r over is n last) in
          absurd (subst IsOver (sym stays ∙ ap (run f k start) place ∙ c.4) over)
