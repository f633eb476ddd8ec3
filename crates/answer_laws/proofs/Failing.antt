-- A run of the entry's frame that makes no contract step and does not begin in a head state is the run of the tables as far as it goes.
use Rattle.std.proofs.Common.{◌≡◌, ℕ, zero, suc, ◌+◌, ◌≤◌, ◌<◌, refl, ap, ◌∙◌, subst, arith, List, [], Option, Some, None, Bool, true, false}
use Rattle.std.specs.Prelude.{◌==◌, nat_le, if◌then◌else◌}
use Rattle.std.proofs.lemmas.Bool.Decides.{nat_tests}
use Rattle.word_spec.specs.State.{State}
use Rattle.machine_spec.specs.Endings.{Event, AssertFails}
use Rattle.machine_spec.specs.StateText.{Layout}
use Rattle.call_spec.specs.Calls.{Budget}
use Rattle.word_spec.specs.State.{Written}
use Rattle.call_spec.specs.Framed.{WrittenHead, WrittenCall}
use Rattle.bilv_spec.specs.Run as tables
use Rattle.bilv_spec.specs.Run.{Program, Place, Step, Stops, Arrives, Exits, step, false_assert, after_asserts, fetchable, by_fetch}
use Rattle.bilv_spec.specs.Verdict as verdict
use Rattle.frame_spec.specs.Frames.{Frame, FrameEvent, event_of, is_head}
use Rattle.frame_spec.specs.FrameRuns.{Start, Run, Going, Arriving, Calling, Exited, Failed, Turned, Cut, Broken, GoesTo, Reaches, Calls, settles, is_contract_call, after_step, arrive, turn, arrival, one_more, begins, run}
use Rattle.frame_spec.specs.FrameReports.{NamedReport, ByEvent, ByTurn, Shown, ShownBy, IsRightReport, MakesContractStep, shown_start, head_of}
use Rattle.frame_spec.specs.FrameVerdict.{Whole, IsStart, entry_frame}
use Rattle.frame_spec.specs.Theorems.{as_start}
use Rattle.answer_laws.specs.Failing.{TableFails, TableGoesOn, FailsMean, TurnsMean}

module _ (w : Whole) (k : ℕ) (start : Start) (uncalled : ¬ MakesContractStep (entry_frame w) k start) (bound : ℕ) where
  abbrev p : Program
  p = w.program

  abbrev f : Frame
  f = entry_frame w

  abbrev entry : State
  entry = start.state

  abbrev table : ℕ → tables.Run
  table = tables.run p bound (as_start start)

  -- the run of the tables is at a place
  abbrev IsAt : ℕ → Place → Type 0
  IsAt n c = (turns : ℕ) × (turns ≤ n) × (table n ≡ tables.Going turns n c)

  -- what a run of the frame after at most so many steps says of the run of the tables
  abbrev Told : ℕ → Run → Type 0
  Told m (Going turns n c) = (n ≤ m) × IsAt n c
  Told m (Arriving turns n c) = (n ≤ m) × IsAt n c
  Told m (Calling turns n c) = Unit {0}
  Told m (Exited at n) = Unit {0}
  Told m (Failed e at n) = (v : Event) × (event_of f v ≡ e) × (table (suc n) ≡ tables.Failed v at n)
  Told m (Turned at n) = (c : Place) × IsAt (suc n) c
  Told m (Cut at n) = Unit {0}
  Told m (Broken line at n) = Unit {0}

  -- a step of the tables to a place makes no backward transfer too many
  arrives_by : (b : Bool) (turns n at : ℕ) (d : Place) → turns ≤ n → n < bound →
      (new : ℕ) × (new ≤ suc n) × (tables.arrive b bound turns n at d ≡ tables.Going new (n + 1) d)
  arrives_by false turns n at d few below = (turns, omega (arith, few), refl)
  arrives_by true turns n at d few below =
      let other : (turns == bound) ≡ false = grind (arith, nat_tests, few, below) in
      (turns + 1, omega (arith, few), ap (λ z. tables.turn z turns n at d) other)

  stepped : (turns n : ℕ) (c : Place) → table n ≡ tables.Going turns n c →
      table (suc n) ≡ tables.after_step bound turns n c.state.pc (step p entry c (start.choices n))
  unfolding tables.run
  stepped turns n c is = ap (tables.one_more p bound (as_start start)) is

  arrived : (n : ℕ) (c d : Place) → n < bound → IsAt n c → step p entry c (start.choices n) ≡ Arrives d → IsAt (suc n) d
  arrived n c d below (turns, few, is) goes =
      let q = arrives_by (nat_le d.state.pc c.state.pc) turns n c.state.pc d few below in
      (q.0, q.1, stepped turns n c is ∙ ap (tables.after_step bound turns n c.state.pc) goes ∙ q.2 ∙ ap (λ z. tables.Going q.0 z d) (omega arith))

  stopped : (n : ℕ) (c : Place) (v : Event) → IsAt n c → step p entry c (start.choices n) ≡ Stops v → table (suc n) ≡ tables.Failed v c.state.pc n
  stopped n c v (turns, few, is) stops = stepped turns n c is ∙ ap (tables.after_step bound turns n c.state.pc) stops

  told_turn : (next : ℕ → ℕ → Place → Run) → ((turns n : ℕ) (c : Place) (m : ℕ) → n ≤ m → IsAt n c → Told m (next turns n c)) →
      (b : Bool) (turns n at m : ℕ) (d : Place) → n ≤ m → IsAt (suc n) d → Told (suc m) (turn next b turns n at d)
  told_turn next by true turns n at m d below is = (d, is)
  told_turn next by false turns n at m d below is = by (turns + 1) (n + 1) d (suc m) (omega (arith, below)) (subst (λ z. IsAt z d) (omega arith) is)

  told_arrive : (next : ℕ → ℕ → Place → Run) → ((turns n : ℕ) (c : Place) (m : ℕ) → n ≤ m → IsAt n c → Told m (next turns n c)) →
      (b : Bool) (turns n at m : ℕ) (d : Place) → n ≤ m → IsAt (suc n) d → Told (suc m) (arrive next b k turns n at d)
  told_arrive next by false turns n at m d below is = by turns (n + 1) d (suc m) (omega (arith, below)) (subst (λ z. IsAt z d) (omega arith) is)
  told_arrive next by true turns n at m d below is = told_turn next by (turns == k) turns n at m d below is

  told_lands : (head call : Bool) (turns n at m : ℕ) (d : Place) → n ≤ m → IsAt (suc n) d →
      Told (suc m) (after_step k turns n at (if head then Reaches d else if call then Calls d else GoesTo d))
  told_lands true call turns n at m d below is = (omega (arith, below), subst (λ z. IsAt z d) (omega arith) is)
  told_lands false true turns n at m d below is =
      told_arrive Calling (λ turns n c m below is. tt) (nat_le d.state.pc at) turns n at m d below is
  told_lands false false turns n at m d below is =
      told_arrive Going (λ turns n c m below is. (below, is)) (nat_le d.state.pc at) turns n at m d below is

  told_step : (turns n m : ℕ) (c : Place) → n ≤ m → n < bound → IsAt n c → (s : Step) → step p entry c (start.choices n) ≡ s →
      Told (suc m) (after_step k turns n c.state.pc (settles f entry c s))
  told_step turns n m c below few is (Stops v) goes = (v, refl, stopped n c v is goes)
  told_step turns n m c below few is (Exits s) goes = tt
  told_step turns n m c below few is (Arrives d) goes =
      told_lands (is_head f d.state.pc) (is_contract_call f c d) turns n c.state.pc m d below (arrived n c d few is goes)

  -- an invariant that is false where a run arrives is an assert line that the tables judge there
  told_arrival : (n m : ℕ) (c : Place) → IsAt n c → (o : Option ℕ) → false_assert p.machine.endian p.notes.asserts c.state entry ≡ o →
      Told (suc m) (arrival f o n c.state.pc)
  told_arrival n m c is None none = tt
  told_arrival n m c is (Some line) some =
      (AssertFails line, refl, stopped n c (AssertFails line) is (ap (λ o. after_asserts o p entry c (start.choices n)) some))

  told_more : (m : ℕ) → m < bound → (r : Run) → Told m r → ((turns n : ℕ) (c : Place) → ¬ (r ≡ Calling turns n c)) → Told (suc m) (one_more f k start r)
  told_more m few (Going turns n c) (below, is) free =
      told_step turns n m c below (omega (arith, below, few)) is (step p entry c (start.choices n)) refl
  told_more m few (Arriving turns n c) (below, is) free =
      told_arrival n m c is (false_assert p.machine.endian p.notes.asserts c.state entry) refl
  told_more m few (Calling turns n c) h free = absurd (free turns n c refl)
  told_more m few (Exited at n) h free = tt
  told_more m few (Failed e at n) h free = h
  told_more m few (Turned at n) h free = h
  told_more m few (Cut at n) h free = tt
  told_more m few (Broken line at n) h free = tt

  begun : table 0 ≡ tables.Going 0 0 (record { state = entry; stack = [] })
  unfolding tables.run
  begun = refl

  told_begins : (b : Bool) → Told 0 (if b then Arriving 0 0 (record { state = entry; stack = [] }) else Going 0 0 (record { state = entry; stack = [] }))
  told_begins true = (omega arith, (0, omega arith, begun))
  told_begins false = (omega arith, (0, omega arith, begun))

  told_first : (h : Option Place) → h ≡ None → Told 0 (begins f entry h)
  told_first None none = told_begins (is_head f entry.pc)
  told_first (Some c) none = absurd (cc)

  pub told : start.head ≡ None → (m : ℕ) → m ≤ bound → Told m (run f k start m)
  unfolding run
  told none zero below = told_first start.head none
  told none (suc m) below =
      told_more m (omega (arith, below)) (run f k start m) (told none m (omega (arith, below))) (λ turns n c is. uncalled (m, turns, n, c, is))

as_table : (w : Whole) (k : ℕ) (start : Start) → IsStart (entry_frame w) k start → verdict.IsStart w.program (as_start start)
as_table w k start is = record { entry = is.entry; choices = is.choices }

module _ (w : Whole) (layout : Layout) (b : Budget) where
  module _ (e : FrameEvent) (at n : ℕ) (start : Written) (calls : List WrittenCall) where
    -- a failure is shown by the entry part alone
    fails_by : (head : Option WrittenHead) →
        IsRightReport w layout b (NamedReport (ByEvent e at n)) (ShownBy (record { start = start; head = head; calls = calls })) →
        TableFails w layout (record { start = start; head = head; calls = calls }) e at n
    fails_by None (within, pass, uncalled, shown, is, (steps, ends), free, verdict) =
        let x = shown_start w (entry_frame w) layout (record { start = start; head = None; calls = calls }) in
        let h : Told w b.unroll x free steps steps (Failed e at n) = subst (Told w b.unroll x free steps steps) ends (told w b.unroll x free steps refl steps (omega arith)) in
        record { start = as_table w b.unroll x is; bound = steps; event = h.0; named = h.1; fails = h.2 }
    fails_by (Some h) (within, pass, uncalled, shown, is, ends, free, verdict) = absurd verdict

  module _ (at n : ℕ) (s : Shown) (none : s.head ≡ None) where
    turns_by : IsRightReport w layout b (NamedReport (ByTurn at n)) (ShownBy s) → TableGoesOn w layout s n
    turns_by (within, pass, uncalled, shown, is, (steps, ends), free, verdict) =
        let x = shown_start w (entry_frame w) layout s in
        let h : Told w b.unroll x free steps steps (Turned at n) =
        subst (Told w b.unroll x free steps steps) ends (told w b.unroll x free steps (ap (head_of (entry_frame w) layout) none) steps (omega arith)) in
        record { start = as_table w b.unroll x is; bound = steps; turns = h.1.0; place = h.0; goes = h.1.2 }

pub fails_mean : FailsMean
fails_mean w layout b e at n s right = fails_by w layout b e at n s.start s.calls s.head right

pub turns_mean : TurnsMean
turns_mean w layout b at n s none right = turns_by w layout b at n s none right
