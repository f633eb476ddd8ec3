-- Segments within two bounds on backward transfers go alike until the one within the smaller bound turns once too often.
use Rattle.std.proofs.Common.{◌≡◌, ◌≢◌, ◌⊎◌, inl, inr, refl, ap, sym, ◌∙◌, subst, arith, ℕ, zero, suc, ◌+◌, ◌≤◌, Bool, true, false, Option, Some, None, [], nat_le, ◌==◌, if◌then◌else◌}
use Rattle.std.proofs.lemmas.Bool.Decides.{nat_tests}
use Rattle.bilv_spec.specs.Run.{Place, false_assert}
use Rattle.frame_spec.specs.Frames.{Frame, is_head}
use Rattle.frame_spec.specs.FrameRuns.{Start, Run, Going, Arriving, Calling, Exited, Failed, Turned, Cut, Broken, FrameStep, Halts, GoesTo, Reaches, Calls, Leaves, Breaks, frame_step, contract_step, turn, arrive, after_step, arrival, one_more, begins, run}
use Rattle.frame_spec.specs.FramePoints.{Anchor}
use Rattle.frame_spec.specs.FrameQuestions.{Reading, by_file, point_of, origin_of, read_on, read_run, ReadingFails, ReadingTurns}
use Rattle.frame_spec.specs.FrameVerdict.{RunExits, RunFails, RunTurns, RunIsCut, RunBreaks}
use Rattle.frame_turns.specs.Bounds.{HasTurned, FrameRunsGoAlike, FrameRunsSame, FrameReadingsGoAlike, HasEnds, FrameEndsRise}

-- a segment within the bound k, and where the segment within a greater bound is then
abbrev IsAlike : ℕ → Run → Run → Type 0
IsAlike k (Going turns n c) s = (turns ≤ k) × (s ≡ Going turns n c)
IsAlike k (Arriving turns n c) s = (turns ≤ k) × (s ≡ Arriving turns n c)
IsAlike k (Calling turns n c) s = (turns ≤ k) × (s ≡ Calling turns n c)
IsAlike k (Exited at n) s = s ≡ Exited at n
IsAlike k (Failed e at n) s = s ≡ Failed e at n
IsAlike k (Turned at n) s = Unit {0}
IsAlike k (Cut at n) s = s ≡ Cut at n
IsAlike k (Broken line at n) s = s ≡ Broken line at n

module _ (k m : ℕ) (h : k ≤ m) (next : ℕ → ℕ → Place → Run) (goes : (turns n : ℕ) (c : Place) → turns ≤ k → IsAlike k (next turns n c) (next turns n c)) where
  turns_alike : (turns n at : ℕ) (c : Place) → turns ≤ k → (a b : Bool) → (turns == k) ≡ a → (turns == m) ≡ b →
      IsAlike k (turn next a turns n at c) (turn next b turns n at c)
  turns_alike turns n at c l true b e f = tt
  turns_alike turns n at c l false false e f = let more : turns + 1 ≤ k = grind (arith, nat_tests) in goes (turns + 1) (n + 1) c more
  turns_alike turns n at c l false true e f =
      let other : turns ≢ k = grind (arith, nat_tests) in let same : turns ≡ m = grind (arith, nat_tests) in absurd (omega (arith, other, same, l, h))

  arrives_alike : (turns n at : ℕ) (c : Place) → turns ≤ k → (b : Bool) → IsAlike k (arrive next b k turns n at c) (arrive next b m turns n at c)
  arrives_alike turns n at c l false = goes turns (n + 1) c l
  arrives_alike turns n at c l true = turns_alike turns n at c l (turns == k) (turns == m) refl refl

step_alike : (k m turns n at : ℕ) → turns ≤ k → k ≤ m → (s : FrameStep) → IsAlike k (after_step k turns n at s) (after_step m turns n at s)
step_alike k m turns n at l h (Halts e) = refl
step_alike k m turns n at l h (GoesTo c) = arrives_alike k m h Going (λ t i d q. (q, refl)) turns n at c l (nat_le c.state.pc at)
step_alike k m turns n at l h (Reaches c) = (l, refl)
step_alike k m turns n at l h (Calls c) = arrives_alike k m h Calling (λ t i d q. (q, refl)) turns n at c l (nat_le c.state.pc at)
step_alike k m turns n at l h (Leaves s) = refl
step_alike k m turns n at l h (Breaks line) = refl

-- a segment that arrives at a head ends there, within each bound
arrival_alike : (f : Frame) (k n at : ℕ) (o : Option ℕ) → IsAlike k (arrival f o n at) (arrival f o n at)
arrival_alike f k n at None = refl
arrival_alike f k n at (Some line) = refl

-- it has turned, or is there too
of_alike : (k : ℕ) (r s : Run) → IsAlike k r s → HasTurned r ⊎ (s ≡ r)
of_alike k (Going turns n c) s h = inr h.1
of_alike k (Arriving turns n c) s h = inr h.1
of_alike k (Calling turns n c) s h = inr h.1
of_alike k (Exited at n) s h = inr h
of_alike k (Failed e at n) s h = inr h
of_alike k (Turned at n) s h = inl tt
of_alike k (Cut at n) s h = inr h
of_alike k (Broken line at n) s h = inr h

-- a segment that has turned, by its last step
turned : (r : Run) → HasTurned r → (at n : ℕ) × (r ≡ Turned at n)
turned (Going turns n c) h = absurd h
turned (Arriving turns n c) h = absurd h
turned (Calling turns n c) h = absurd h
turned (Exited at n) h = absurd h
turned (Failed e at n) h = absurd h
turned (Turned at n) h = (at, n, refl)
turned (Cut at n) h = absurd h
turned (Broken line at n) h = absurd h

begins_alike : (b : Bool) (k : ℕ) (c : Place) → IsAlike k (if b then Arriving 0 0 c else Going 0 0 c) (if b then Arriving 0 0 c else Going 0 0 c)
begins_alike true k c = (omega arith, refl)
begins_alike false k c = (omega arith, refl)

origin_alike : (f : Frame) (k : ℕ) (start : Start) (o : Option Place) → IsAlike k (begins f start.state o) (begins f start.state o)
origin_alike f k start None = begins_alike (is_head f start.state.pc) k (record { state = start.state; stack = [] })
origin_alike f k start (Some c) = (omega arith, refl)

module _ (f : Frame) (k m : ℕ) (h : k ≤ m) where
  module _ (start : Start) where
    more_alike : (r s : Run) → IsAlike k r s → IsAlike k (one_more f k start r) (one_more f m start s)
    more_alike (Going turns n c) s a =
        subst (λ (z : Run). IsAlike k (one_more f k start (Going turns n c)) (one_more f m start z)) (sym a.1)
        (step_alike k m turns n c.state.pc a.0 h (frame_step f start.state c (start.choices n)))
    more_alike (Arriving turns n c) s a =
        subst (λ (z : Run). IsAlike k (one_more f k start (Arriving turns n c)) (one_more f m start z)) (sym a.1)
        (arrival_alike f k n c.state.pc (false_assert f.program.machine.endian f.program.notes.asserts c.state start.state))
    more_alike (Calling turns n c) s a =
        subst (λ (z : Run). IsAlike k (one_more f k start (Calling turns n c)) (one_more f m start z)) (sym a.1)
        (step_alike k m turns n c.state.pc a.0 h (contract_step f start.state c (start.given n)))
    more_alike (Exited at n) s a = ap (one_more f m start) a
    more_alike (Failed e at n) s a = ap (one_more f m start) a
    more_alike (Turned at n) s a = tt
    more_alike (Cut at n) s a = ap (one_more f m start) a
    more_alike (Broken line at n) s a = ap (one_more f m start) a

    alike : (steps : ℕ) → IsAlike k (run f k start steps) (run f m start steps)
    unfolding run
    alike zero = origin_alike f k start start.head
    alike (suc n) = more_alike (run f k start n) (run f m start n) (alike n)

    pub go_alike : (steps : ℕ) → HasTurned (run f k start steps) ⊎ (run f m start steps ≡ run f k start steps)
    go_alike steps = of_alike k (run f k start steps) (run f m start steps) (alike steps)

    pub has_turned : (steps : ℕ) → HasTurned (run f k start steps) → RunTurns f k start
    has_turned steps t = let q = turned (run f k start steps) t in (steps, q.0, q.1, q.2)

    pub same : ¬ RunTurns f k start → (steps : ℕ) → run f m start steps ≡ run f k start steps
    same never steps = elim (go_alike steps) [ inl t ↦ absurd (never (has_turned steps t)) | inr e ↦ e ]

    exits_rise : RunExits f k start → RunExits f m start
    exits_rise (steps, at, n, is) = (steps, at, n, subst (λ (z : Run). IsAlike k z (run f m start steps)) is (alike steps))

    fails_rise : RunFails f k start → RunFails f m start
    fails_rise (steps, at, n, e, is) = (steps, at, n, e, subst (λ (z : Run). IsAlike k z (run f m start steps)) is (alike steps))

    cuts_rise : RunIsCut f k start → RunIsCut f m start
    cuts_rise (steps, at, n, is) = (steps, at, n, subst (λ (z : Run). IsAlike k z (run f m start steps)) is (alike steps))

    breaks_rise : RunBreaks f k start → RunBreaks f m start
    breaks_rise (steps, line, at, n, is) = (steps, line, at, n, subst (λ (z : Run). IsAlike k z (run f m start steps)) is (alike steps))

    turns_fall : RunTurns f m start → RunTurns f k start
    turns_fall (steps, at, n, is) = elim (go_alike steps) [ inl t ↦ has_turned steps t | inr e ↦ (steps, at, n, sym e ∙ is) ]

    fails_fall : RunFails f m start → RunFails f k start ⊎ RunTurns f k start
    fails_fall (steps, at, n, v, is) = elim (go_alike steps) [ inl t ↦ inr (has_turned steps t) | inr e ↦ inl (steps, at, n, v, sym e ∙ is) ]

    pub ends : HasEnds f k m start
    ends = record { exits = exits_rise; fails = fails_rise; cuts = cuts_rise; breaks = breaks_rise; turns = turns_fall; failed = fails_fall }

  module _ (r : Reading) (anchor : Anchor) where
    on_alike : (x y : Run) → IsAlike k x y → IsAlike k (read_on f k r anchor x) (read_on f m r anchor y)
    on_alike (Going turns n c) s a =
        subst (λ (z : Run). IsAlike k (read_on f k r anchor (Going turns n c)) (read_on f m r anchor z)) (sym a.1)
        (step_alike k m turns n c.state.pc a.0 h (frame_step (by_file f) r.state c (r.choice (point_of anchor false turns c))))
    on_alike (Arriving turns n c) s a =
        subst (λ (z : Run). IsAlike k (read_on f k r anchor (Arriving turns n c)) (read_on f m r anchor z)) (sym a.1)
        (arrival_alike f k n c.state.pc (false_assert f.program.machine.endian f.program.notes.asserts c.state r.state))
    on_alike (Calling turns n c) s a =
        subst (λ (z : Run). IsAlike k (read_on f k r anchor (Calling turns n c)) (read_on f m r anchor z)) (sym a.1)
        (step_alike k m turns n c.state.pc a.0 h (contract_step (by_file f) r.state c (r.given (point_of anchor true turns c))))
    on_alike (Exited at n) s a = ap (read_on f m r anchor) a
    on_alike (Failed e at n) s a = ap (read_on f m r anchor) a
    on_alike (Turned at n) s a = tt
    on_alike (Cut at n) s a = ap (read_on f m r anchor) a
    on_alike (Broken line at n) s a = ap (read_on f m r anchor) a

    read_alike : (steps : ℕ) → IsAlike k (read_run f k r anchor steps) (read_run f m r anchor steps)
    unfolding read_run
    read_alike zero = origin_alike f k (record { state = r.state; head = None; choices = λ i. 0; given = λ i. r.head }) (origin_of r anchor)
    read_alike (suc n) = on_alike (read_run f k r anchor n) (read_run f m r anchor n) (read_alike n)

    pub read_go_alike : (steps : ℕ) → HasTurned (read_run f k r anchor steps) ⊎ (read_run f m r anchor steps ≡ read_run f k r anchor steps)
    read_go_alike steps = of_alike k (read_run f k r anchor steps) (read_run f m r anchor steps) (read_alike steps)

    has_turned_read : (steps : ℕ) → HasTurned (read_run f k r anchor steps) → ReadingTurns f k r anchor
    has_turned_read steps t = let q = turned (read_run f k r anchor steps) t in (steps, q.0, q.1, q.2)

    pub reading_fails : ReadingFails f k r anchor → ReadingFails f m r anchor
    reading_fails (steps, at, n, e, is) = (steps, at, n, e, subst (λ (z : Run). IsAlike k z (read_run f m r anchor steps)) is (read_alike steps))

    pub reading_turns : ReadingTurns f m r anchor → ReadingTurns f k r anchor
    reading_turns (steps, at, n, is) = elim (read_go_alike steps) [ inl t ↦ has_turned_read steps t | inr e ↦ (steps, at, n, sym e ∙ is) ]

    pub reading_failed : ReadingFails f m r anchor → ReadingFails f k r anchor ⊎ ReadingTurns f k r anchor
    reading_failed (steps, at, n, v, is) = elim (read_go_alike steps) [ inl t ↦ inr (has_turned_read steps t) | inr e ↦ inl (steps, at, n, v, sym e ∙ is) ]

pub frame_runs_go_alike : FrameRunsGoAlike
frame_runs_go_alike f k m h start steps = go_alike f k m h start steps

pub frame_runs_same : FrameRunsSame
frame_runs_same f k m h start never steps = same f k m h start never steps

pub frame_readings_go_alike : FrameReadingsGoAlike
frame_readings_go_alike f k m h r anchor steps = read_go_alike f k m h r anchor steps

pub frame_ends_rise : FrameEndsRise
frame_ends_rise f k m h start = ends f k m h start
