-- What a run of a frame is found to come to.
use Rattle.std.proofs.Common.{◌≡◌, ℕ, suc, ◌+◌, ◌-◌, ◌≤◌, refl, sym, ap, ◌∙◌, subst, arith}
use Rattle.std.specs.Prelude.{Bool, true, false, Option, Some, None, ◌==◌, nat_le}
use Rattle.word_spec.specs.State.{State}
use Rattle.machine_spec.specs.Endings.{AssertFails}
use Rattle.bilv_spec.specs.Run as tables
use Rattle.bilv_spec.specs.Run.{Place, false_assert}
use Rattle.frame_spec.specs.Frames.{Frame, FrameEvent, event_of}
use Rattle.frame_spec.specs.FrameRuns.{Start, Run, Going, Arriving, Exited, Failed, Turned, Halts, GoesTo, Reaches, Leaves, frame_step, after_step, arrive, turn, arrival, one_more, run, IsOver}
use Rattle.frame_spec.specs.FrameFound.{FoundExit, FoundEvent, FoundTurn, FoundLeft, found_by, found_within}
use Rattle.frame_spec.specs.Theorems.{as_frame_run}
use Rattle.frame_spec.proofs.OneEnd.{over_stays}

-- a transfer that the tables count is one of the frame
turn_same : (b : Bool) (turns n at : ℕ) (c : Place) → turn Going b turns n at c ≡ as_frame_run (tables.turn b turns n at c)
turn_same true turns n at c = refl
turn_same false turns n at c = refl

arrive_same : (b : Bool) (k turns n at : ℕ) (c : Place) → arrive Going b k turns n at c ≡ as_frame_run (tables.arrive b k turns n at c)
arrive_same false k turns n at c = refl
arrive_same true k turns n at c = turn_same (turns == k) turns n at c

pub arrival_over : (f : Frame) (o : Option ℕ) (n at : ℕ) → IsOver (arrival f o n at)
arrival_over f None n at = tt
arrival_over f (Some line) n at = tt

-- an arrival that is judged by a false line
pub arrival_fails : (f : Frame) (before : Run) (e : FrameEvent) (line n at there : ℕ) (o : Option ℕ) → e ≡ event_of f (AssertFails line) → at ≡ there →
    Some line ≡ o → FoundEvent e at n ≡ found_by before (arrival f o n there)
arrival_fails f before e line n at there o is same some =
    ap (λ (x : FrameEvent). FoundEvent x at n) is ∙ ap (λ (a : ℕ). FoundEvent (event_of f (AssertFails line)) a n) same
    ∙ ap (λ (z : Option ℕ). found_by before (arrival f z n there)) some

module _ (f : Frame) (k : ℕ) (s : Start) where
  -- a run that is over after a step is found as it ended
  over_within : (r : Run) (n last : ℕ) → IsOver r → run f k s (suc n) ≡ r → n ≤ last → found_within f k s last ≡ found_by (run f k s last) r
  over_within r n last over is le =
      let place : (last - n) + suc n ≡ last + 1 = omega arith in
      ap (found_by (run f k s last)) (subst (λ m. run f k s m ≡ r) place (over_stays f k s (suc n) (last - n) r over is))

  -- an arrival at a head
  pub found_arrival : (turns n last : ℕ) (c : Place) → run f k s n ≡ Arriving turns n c → n ≤ last → found_within f k s last
      ≡ found_by (run f k s last) (arrival f (false_assert f.program.machine.endian f.program.notes.asserts c.state s.state) n c.state.pc)
  unfolding run
  found_arrival turns n last c going le =
      let o = false_assert f.program.machine.endian f.program.notes.asserts c.state s.state in
      over_within (arrival f o n c.state.pc) n last (arrival_over f o n c.state.pc) (ap (one_more f k s) going) le

  module _ (turns n last choice at : ℕ) (c : Place) (drawn : choice ≡ s.choices n) (here : at ≡ c.state.pc)
      (going : run f k s n ≡ Going turns n c) where
    -- the run after this step
    pub next : (r : Run) → after_step k turns n c.state.pc (frame_step f s.state c choice) ≡ r → run f k s (suc n) ≡ r
    unfolding run
    next r is = ap (one_more f k s) going ∙ ap (λ h. after_step k turns n c.state.pc (frame_step f s.state c h)) (sym drawn) ∙ is

    pub found_event : (e : FrameEvent) → n ≤ last → frame_step f s.state c choice ≡ Halts e → FoundEvent e at n ≡ found_within f k s last
    found_event e le is =
        ap (λ a. FoundEvent e a n) here
        ∙ sym (over_within (Failed e c.state.pc n) n last tt (next (Failed e c.state.pc n) (ap (after_step k turns n c.state.pc) is)) le)

    pub found_exit : (t : State) → n ≤ last → frame_step f s.state c choice ≡ Leaves t → FoundExit at n ≡ found_within f k s last
    found_exit t le is =
        ap (λ a. FoundExit a n) here
        ∙ sym (over_within (Exited c.state.pc n) n last tt (next (Exited c.state.pc n) (ap (after_step k turns n c.state.pc) is)) le)

    module _ (d : Place) where
      module _ (is : frame_step f s.state c choice ≡ Reaches d) where
        pub reached : run f k s (n + 1) ≡ Arriving turns (n + 1) d
        reached =
            let up : suc n ≡ n + 1 = omega arith in
            subst (λ m. run f k s m ≡ Arriving turns (n + 1) d) up (next (Arriving turns (n + 1) d) (ap (after_step k turns n c.state.pc) is))

        pub reached_left : n ≡ last → FoundLeft at n ≡ found_within f k s last
        reached_left same =
            let behind : run f k s (last + 1) ≡ Arriving turns (n + 1) d = subst (λ m. run f k s (m + 1) ≡ Arriving turns (n + 1) d) same reached in
            let before : run f k s last ≡ Going turns n c = subst (λ m. run f k s m ≡ Going turns n c) same going in
            ap (λ a. FoundLeft a n) here ∙ sym (ap (λ r. found_by r (Arriving turns (n + 1) d)) before) ∙ sym (ap (found_by (run f k s last)) behind)

      module _ (to : ℕ) (there : to ≡ d.state.pc) (is : frame_step f s.state c choice ≡ GoesTo d) where
        arrived : (r : Run) → arrive Going (nat_le to at) k turns n at d ≡ r → after_step k turns n c.state.pc (frame_step f s.state c choice) ≡ r
        arrived r h =
            ap (after_step k turns n c.state.pc) is
            ∙ sym (ap (λ a. arrive Going (nat_le a c.state.pc) k turns n c.state.pc d) there)
            ∙ sym (ap (λ a. arrive Going (nat_le to a) k turns n a d) here)
            ∙ h

        pub turned_out : tables.arrive (nat_le to at) k turns n at d ≡ tables.Turned at n → run f k s (suc n) ≡ Turned at n
        turned_out h =
            let same : arrive Going (nat_le to at) k turns n at d ≡ Turned at n = arrive_same (nat_le to at) k turns n at d ∙ ap as_frame_run h in
            next (Turned at n) (arrived (Turned at n) same)

        pub found_turn : n ≤ last → tables.arrive (nat_le to at) k turns n at d ≡ tables.Turned at n → FoundTurn at n ≡ found_within f k s last
        found_turn le h = sym (over_within (Turned at n) n last tt (turned_out h) le)

        pub one_step : (more : ℕ) → tables.arrive (nat_le to at) k turns n at d ≡ tables.Going more (n + 1) d → run f k s (n + 1) ≡ Going more (n + 1) d
        one_step more h =
            let up : suc n ≡ n + 1 = omega arith in
            subst (λ m. run f k s m ≡ Going more (n + 1) d) up
            (next (Going more (n + 1) d) (arrived (Going more (n + 1) d) (arrive_same (nat_le to at) k turns n at d ∙ ap as_frame_run h)))

        pub found_left : (more : ℕ) → n ≡ last → tables.arrive (nat_le to at) k turns n at d ≡ tables.Going more (n + 1) d →
            FoundLeft at n ≡ found_within f k s last
        found_left more same h =
            let behind : run f k s (last + 1) ≡ Going more (n + 1) d = subst (λ m. run f k s (m + 1) ≡ Going more (n + 1) d) same (one_step more h) in
            let before : run f k s last ≡ Going turns n c = subst (λ m. run f k s m ≡ Going turns n c) same going in
            ap (λ a. FoundLeft a n) here ∙ sym (ap (λ r. found_by r (Going more (n + 1) d)) before) ∙ sym (ap (found_by (run f k s last)) behind)
