-- The text of a right report is replayed.
use Rattle.std.proofs.Common.{◌≡◌, ℕ, zero, suc, ◌+◌, ◌%◌, ◌≤◌, refl, ap, sym, ◌∙◌, subst, arith, Bool, true, false, List, [], ◌++◌, Option, Some, None, length}
use Rattle.std.specs.Prelude.{◌==◌, nat_lt, nat_le, codes}
use Rattle.std.proofs.lemmas.Bool.Decides.{nat_tests}
use Rattle.std.proofs.lemmas.Bool.{eq-eqb}
use Rattle.machine_spec.specs.Machine.{is_place, unit}
use Rattle.std.proofs.Math.Numerals.{add-one}
use Rattle.bilv_spec.specs.Verdict.{IsEntryState, IsStart}
use Rattle.bilv_spec.specs.Points.{is_known_at}
use Rattle.word_spec.specs.Texts.{line}
use Rattle.machine_spec.specs.Endings.{NamedEnding, FailsBy, UnknownBy, named_line, Start, Event, AssertFails, FetchFails, NoRow, HalfwordFails, CodeWritten, Trapped, AlignFails, JumpFails, EnsureFails}
use Rattle.bilv_spec.specs.Reports.{FoundEvent, FoundTurn, found_by}
use Rattle.word_spec.specs.State.{Written}
use Rattle.machine_spec.specs.StateText.{StateText, IsWritten, IsNamed, printed}
use Rattle.call_spec.specs.Calls.{Options, Budget, Evidence, RunOf, plain_answer}
use Rattle.bilv_spec.specs.Files.{layout_of}
use Rattle.bilv_spec.specs.Answers.{Report, HoldsReport, VacuousReport, FailsReport, UnrollReport, PointsReport, SizeReport, ConflictsReport, IsRightReport, EndsAs, report_text, start_in}
use Rattle.clause_spec.specs.Checks.{text_limit}
use Rattle.bilv_spec.specs.Replays.{same_event, is_found, found_of, ending_answer, require_answer, start_answer, run_answer, told_answer, sized_answer, replay_answer}
use Rattle.answer_spec.specs.AnswerLaws.{named_of}
use Rattle.machine_spec.proofs.Spelling.{same_number}
use Rattle.bilv_spec.proofs.StateTold.{printed_is_told}
use Rattle.bilv_spec.proofs.SameRuns.{same_run}
use Rattle.bilv_spec.specs.Run.{Program, Step, Stops, Arrives, Exits, Run, Going, Exited, Failed, Turned, run, one_more, after_step, arrive, turn, step}

-- a step that ends in an event does so whatever the bound is
fails_by : (k turns n at : ℕ) (s : Step) (e : Event) (a j : ℕ) → after_step k turns n at s ≡ Failed e a j →
    (n ≡ j) × ((l : ℕ) → after_step l turns n at s ≡ Failed e a j)
fails_by k turns n at (Stops f) e a j h = let same : n ≡ j = cc in (same, λ l. h)
fails_by k turns n at (Exits s) e a j h = absurd (let x : Exited at n ≡ Failed e a j = h in cc)
fails_by k turns n at (Arrives d) e a j h = absurd (by_address (nat_le d.state.pc at) h)
  where
    by_bound : (b : Bool) → turn b turns n at d ≡ Failed e a j → ⊥
    by_bound true h = let x : Turned at n ≡ Failed e a j = h in cc
    by_bound false h = let x : Going (turns + 1) (n + 1) d ≡ Failed e a j = h in cc

    by_address : (b : Bool) → arrive b k turns n at d ≡ Failed e a j → ⊥
    by_address false h = let x : Going turns (n + 1) d ≡ Failed e a j = h in cc
    by_address true h = by_bound (turns == k) h

-- a step that is one backward transfer too many
turns_by : (k turns n at : ℕ) (s : Step) (a j : ℕ) → after_step k turns n at s ≡ Turned a j → n ≡ j
turns_by k turns n at (Stops f) a j h = absurd (let x : Failed f at n ≡ Turned a j = h in cc)
turns_by k turns n at (Exits s) a j h = absurd (let x : Exited at n ≡ Turned a j = h in cc)
turns_by k turns n at (Arrives d) a j h = by_address (nat_le d.state.pc at) h
  where
    by_bound : (b : Bool) → turn b turns n at d ≡ Turned a j → n ≡ j
    by_bound true h = cc
    by_bound false h = absurd (let x : Going (turns + 1) (n + 1) d ≡ Turned a j = h in cc)

    by_address : (b : Bool) → arrive b k turns n at d ≡ Turned a j → n ≡ j
    by_address false h = absurd (let x : Going turns (n + 1) d ≡ Turned a j = h in cc)
    by_address true h = by_bound (turns == k) h

module _ (p : Program) (start : Start) where
  fails_step : (k n : ℕ) (e : Event) (at j l : ℕ) → j ≤ l → (run p k start n ≡ Failed e at j → run p l start (suc j) ≡ Failed e at j) → (r : Run) →
      run p k start n ≡ r → one_more p k start r ≡ Failed e at j → run p l start (suc j) ≡ Failed e at j
  unfolding run
  fails_step k n e at j l room known (Going u i d) f h =
      let here = fails_by k u i d.state.pc (step p start.state d (start.choices i)) e at j h in
      let itself : n ≤ n = omega arith in
      let same : n ≡ j = omega (arith, (same_run p start k n n itself u i d f).0, here.0) in
      let before = (same_run p start k l n (omega (arith, room, same)) u i d f).2 in
      ap (λ x. one_more p l start (run p l start x)) (sym same) ∙ ap (one_more p l start) before ∙ here.1 l
  fails_step k n e at j l room known (Exited a i) f h = absurd (let x : Exited a i ≡ Failed e at j = h in cc)
  fails_step k n e at j l room known (Failed g a i) f h = known (f ∙ h)
  fails_step k n e at j l room known (Turned a i) f h = absurd (let x : Turned a i ≡ Failed e at j = h in cc)

  -- an event ends the run at the step that it names
  fails_at : (k n : ℕ) (e : Event) (at j l : ℕ) → j ≤ l → run p k start n ≡ Failed e at j → run p l start (suc j) ≡ Failed e at j
  unfolding run
  fails_at k zero e at j l room h = absurd (let x : Going 0 0 (record { state = start.state; stack = [] }) ≡ Failed e at j = h in cc)
  fails_at k (suc n) e at j l room h = fails_step k n e at j l room (fails_at k n e at j l room) (run p k start n) refl h

  turns_step : (k n at j : ℕ) → (run p k start n ≡ Turned at j → run p k start (suc j) ≡ Turned at j) → (r : Run) →
      run p k start n ≡ r → one_more p k start r ≡ Turned at j → run p k start (suc j) ≡ Turned at j
  unfolding run
  turns_step k n at j known (Going u i d) f h =
      let here = turns_by k u i d.state.pc (step p start.state d (start.choices i)) at j h in
      let itself : n ≤ n = omega arith in
      let same : n ≡ j = omega (arith, (same_run p start k n n itself u i d f).0, here) in
      ap (λ x. one_more p k start (run p k start x)) (sym same) ∙ ap (one_more p k start) f ∙ h
  turns_step k n at j known (Exited a i) f h = absurd (let x : Exited a i ≡ Turned at j = h in cc)
  turns_step k n at j known (Failed g a i) f h = absurd (let x : Failed g a i ≡ Turned at j = h in cc)
  turns_step k n at j known (Turned a i) f h = known (f ∙ h)

  -- one backward transfer too many ends the run at the step that it names
  turns_at : (k n at j : ℕ) → run p k start n ≡ Turned at j → run p k start (suc j) ≡ Turned at j
  unfolding run
  turns_at k zero at j h = absurd (let x : Going 0 0 (record { state = start.state; stack = [] }) ≡ Turned at j = h in cc)
  turns_at k (suc n) at j h = turns_step k n at j (turns_at k n at j) (run p k start n) refl h

same_events : (e : Event) → same_event e e ≡ true
same_events (AssertFails n) = same_number n
same_events FetchFails = refl
same_events NoRow = refl
same_events HalfwordFails = refl
same_events CodeWritten = refl
same_events Trapped = refl
same_events AlignFails = refl
same_events JumpFails = refl
same_events (EnsureFails n) = same_number n

-- a start that is an entry state, whose run is found to end as it is named
run_replays : (p : Program) (n : NamedEnding) (start : Start) → IsEntryState p start.state → is_found n (found_of p n start) ≡ true →
    run_answer p n start ≡ plain_answer 0 (line (codes "replayed " ++ named_line n))
run_replays p n start entry is_found =
    let link : is_place p.machine.narrow (start.state.regs p.machine.link) ≡ true = eq-eqb (start.state.regs p.machine.link % unit p.machine.narrow) 0 entry.link in
    ap (λ b. start_answer b p n start) link ∙ ap (λ o. require_answer o n (found_of p n start)) entry.requires ∙ ap
    (λ b. ending_answer b n (found_of p n start)) is_found

-- a text that isn't too long, and is printed of the start
text_replays : (o : Options) (file : List ℕ) (p : Program) (n : NamedEnding) (w : Written) → IsWritten (layout_of o file) (is_known_at p) w → IsNamed n →
    IsEntryState p (start_in p (layout_of o file) w).state → is_found n (found_of p n (start_in p (layout_of o file) w)) ≡ true →
    length (printed (layout_of o file) (record { named = n; start = w })) ≤ text_limit →
    replay_answer p (layout_of o file) (printed (layout_of o file) (record { named = n; start = w }))
    ≡ plain_answer 0 (line (codes "replayed " ++ named_line n))
text_replays o file p n w written named entry is_found room =
    let t : StateText = record { named = n; start = w } in
    let text = printed (layout_of o file) t in
    let short : nat_lt text_limit (length text) ≡ false = grind (arith, nat_tests) in
    ap (λ b. sized_answer b p (layout_of o file) text) short ∙ ap (told_answer p (layout_of o file)) (printed_is_told o file (is_known_at p) t written named)
    ∙ run_replays p n (start_in p (layout_of o file) w) entry is_found

-- what is found of a run that fails, and of one that turns
found_failing : (p : Program) (start : Start) (k steps : ℕ) (e : Event) (at j : ℕ) → run p k start steps ≡ Failed e at j →
    found_of p (FailsBy e at j) start ≡ FoundEvent e at j
found_failing p start k steps e at j h =
    ap (λ r. found_by (run p (j + 1) start j) r) (ap (λ n. run p (j + 1) start n) (add-one j) ∙ fails_at p start k steps e at j (j + 1) (omega arith) h)

found_turning : (p : Program) (start : Start) (k steps at j : ℕ) → run p k start steps ≡ Turned at j → found_of p (UnknownBy k at j) start ≡ FoundTurn at j
found_turning p start k steps at j h =
    ap (λ r. found_by (run p k start j) r) (ap (λ n. run p k start n) (add-one j) ∙ turns_at p start k steps at j h)

module _ (o : Options) (file : List ℕ) (p : Program) (k : ℕ) (w : Written) (written : IsWritten (layout_of o file) (is_known_at p) w)
    (starts : IsStart p (start_in p (layout_of o file) w)) where
  -- the text of a start whose run has an event is replayed
  pub failing_replays : (e : Event) (at j : ℕ) → EndsAs p k (start_in p (layout_of o file) w) (Failed e at j) → IsNamed (FailsBy e at j) →
      length (printed (layout_of o file) (record { named = FailsBy e at j; start = w })) ≤ text_limit →
      replay_answer p (layout_of o file) (printed (layout_of o file) (record { named = FailsBy e at j; start = w }))
      ≡ plain_answer 0 (line (codes "replayed " ++ named_line (FailsBy e at j)))
  failing_replays e at j ends named room =
      let start = start_in p (layout_of o file) w in
      let found_is = found_failing p start k ends.0 e at j ends.1 in
      let is_found : is_found (FailsBy e at j) (found_of p (FailsBy e at j) start)
      ≡ true = rw (found_is, same_events e, same_number at, same_number j) refl in
      text_replays o file p (FailsBy e at j) w written named starts.entry is_found room

  -- so is that of one whose run makes one backward transfer too many
  pub turning_replays : (at j : ℕ) → EndsAs p k (start_in p (layout_of o file) w) (Turned at j) → IsNamed (UnknownBy k at j) →
      length (printed (layout_of o file) (record { named = UnknownBy k at j; start = w })) ≤ text_limit →
      replay_answer p (layout_of o file) (printed (layout_of o file) (record { named = UnknownBy k at j; start = w }))
      ≡ plain_answer 0 (line (codes "replayed " ++ named_line (UnknownBy k at j)))
  turning_replays at j ends named room =
      let start = start_in p (layout_of o file) w in
      let found_is = found_turning p start k ends.0 at j ends.1 in
      let is_found : is_found (UnknownBy k at j) (found_of p (UnknownBy k at j) start) ≡ true = rw (found_is, same_number at, same_number j) refl in
      text_replays o file p (UnknownBy k at j) w written named starts.entry is_found room

no_name : (n : NamedEnding) → ◌≡◌ {A = Option NamedEnding} None (Some n) → ⊥
no_name n e = cc

pub report_replays : (o : Options) (file : List ℕ) (p : Program) (b : Budget) (r : Report) (e : Evidence) (n : NamedEnding) →
    IsRightReport p (layout_of o file) b r e →
    named_of b r ≡ Some n →
    IsNamed n → length (report_text (layout_of o file) b r e) ≤ text_limit →
    replay_answer p (layout_of o file) (report_text (layout_of o file) b r e) ≡ plain_answer 0 (line (codes "replayed " ++ named_line n))
report_replays o file p b HoldsReport e n a f named room = absurd (no_name n f)
report_replays o file p b VacuousReport e n a f named room = absurd (no_name n f)
report_replays o file p b PointsReport e n a f named room = absurd (no_name n f)
report_replays o file p b SizeReport e n a f named room = absurd (no_name n f)
report_replays o file p b ConflictsReport e n a f named room = absurd (no_name n f)
report_replays o file p b (FailsReport event at j) (RunOf w) n a f named room =
    let same : FailsBy event at j ≡ n = cc in
    failing_replays o file p b.unroll w a.2 a.3 event at j a.4 (subst IsNamed (sym same) named) room
    ∙ ap (λ x. plain_answer 0 (line (codes "replayed " ++ named_line x))) same
report_replays o file p b (FailsReport event at j) other n a f named room = absurd a
report_replays o file p b (UnrollReport at j) (RunOf w) n a f named room =
    let same : UnknownBy b.unroll at j ≡ n = cc in
    turning_replays o file p b.unroll w a.2 a.3 at j a.4 (subst IsNamed (sym same) named) room
    ∙ ap (λ x. plain_answer 0 (line (codes "replayed " ++ named_line x))) same
report_replays o file p b (UnrollReport at j) other n a f named room = absurd a
