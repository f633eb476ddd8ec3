-- A right report on a frame that is not proved replays.
use Rattle.std.proofs.Common.{◌≡◌, ℕ, zero, suc, ◌+◌, ◌-◌, ◌%◌, ◌<◌, refl, ap, sym, ◌∙◌, subst, arith, ◌≢◌, Bool, true, false, List, [], ◌∷◌, ◌++◌, Option, Some, None, length, eq-eqb}
use Rattle.std.specs.Prelude.{◌||◌, codes, is_some, nat_lt, slice_get}
use Rattle.std.proofs.lemmas.Bool.Decides.{nat_tests}
use Rattle.word_spec.specs.State.{State}
use Rattle.word_spec.specs.Texts.{joined, line}
use Rattle.call_spec.specs.Calls.{Answer, Budget, plain_answer}
use Rattle.frame_texts_spec.proofs.BlocklessReplays.{never_called, never_calling}
use Rattle.frame_texts_spec.proofs.MadeBlocks.{none_wrong}
use Rattle.word_spec.specs.State.{Written}
use Rattle.machine_spec.proofs.Spelling.{same_number}
use Rattle.frame_texts_spec.specs.CallTextLaws.{FrameReportsReplay}
use Rattle.machine_spec.specs.Endings.{Event, AssertFails, FetchFails, NoRow, HalfwordFails, CodeWritten, Trapped, AlignFails, JumpFails, EnsureFails}
use Rattle.machine_spec.specs.Machine.{unit}
use Rattle.machine_spec.specs.StateText.{Layout}
use Rattle.bilv_spec.specs.Replays.{same_event}
use Rattle.bilv_spec.specs.Run.{Place}
use Rattle.frame_spec.specs.Frames.{Frame, FrameEvent, OfStep, InvariantFails, NeedsFails, WritesFails, GivesFails, ModifiesFails}
use Rattle.frame_spec.specs.FrameFound.{Found, FoundEvent, FoundTurn, found, found_by}
use Rattle.frame_spec.specs.FrameReports.{AreMade, EndsAs, ByEvent, ByTurn, IsRightReport, MakesContractStep, Named, NamedReport, Shown, ShownBy, WrittenCall, WrittenHead, head_of, last_rank, shown_start}
use Rattle.frame_spec.specs.FrameRuns.{Start, Run, Going, Arriving, Calling, Exited, Failed, Turned, Cut, Broken, run}
use Rattle.frame_spec.specs.FrameVerdict.{IsOrigin, IsStart, Whole, entry_frame, frame_by, frame_of}
use Rattle.frame_texts_spec.proofs.RunEnds.{IsNotTurned, ended, made_before, not_turned, runs_alike}
use Rattle.frame_texts_spec.specs.FrameTexts.{FramedFails, FramedTurns, NotInductiveBy}
use Rattle.frame_texts_spec.specs.FrameReplays.{bound_of, false_at_head, same_frame_event, step_of}
use Rattle.frame_texts_spec.specs.CallReplays.{allowed, bare, block_answer, block_cause, call_ending_answer, call_head_answer, call_run_answer, call_start_answer, frame_named, has_called, is_call_found, is_calling, is_of_frame, needs_answer, outcome, rank_named, report_of}
use Rattle.frame_texts_spec.specs.CallTexts.{CallEnding, ContractFrame, EntryFrame, FrameName, Plain, UnprovedBy, UnprovedTurns, call_ending_words, frame_name}

-- ---- what is found, and whether a contract step was made

module _ (f : Frame) (k : ℕ) (start : Start) where
  fails_found : (e : FrameEvent) (at n steps : ℕ) → run f k start steps ≡ Failed e at n → found f None start n ≡ FoundEvent e at n
  fails_found e at n steps is =
      let last = ended f k start steps (Failed e at n) tt is n refl in
      let alike = runs_alike f k (n + 1) start (n + 1) (omega arith) (subst IsNotTurned (sym last) tt) in
      ap (found_by (run f (n + 1) start n)) (alike.0 ∙ last)

  turns_found : (at n steps : ℕ) → run f k start steps ≡ Turned at n → found f (Some k) start n ≡ FoundTurn at n
  turns_found at n steps is = ap (found_by (run f k start n)) (ended f k start steps (Turned at n) tt is n refl)

  has_step : (m i count : ℕ) → i < count → is_calling (run f m start i) ≡ true → has_called f m start count ≡ true
  has_step m i zero less is = absurd (omega arith)
  has_step m i (suc count) less is = by_order (nat_lt i count) refl (λ h. has_step m i count h is)
    where
      or_right : (x y : Bool) → y ≡ true → (x || y) ≡ true
      or_right true y e = refl
      or_right false y e = e

      by_order : (t : Bool) → nat_lt i count ≡ t → (i < count → has_called f m start count ≡ true) → has_called f m start (suc count) ≡ true
      by_order true t earlier = ap (λ b. b || is_calling (run f m start count)) (earlier (grind (arith, nat_tests, t)))
      by_order false t earlier =
          let same : i ≡ count = grind (arith, nat_tests, t) in
          or_right (has_called f m start count) (is_calling (run f m start count)) (subst (λ j. is_calling (run f m start j) ≡ true) same is)

  fails_called : (e : FrameEvent) (at n steps : ℕ) → run f k start steps ≡ Failed e at n → MakesContractStep f k start →
      has_called f (n + 1) start (n + 1) ≡ true
  fails_called e at n steps is c =
      let low = made_before f k start (Failed e at n) n steps tt refl is c in
      let alike = runs_alike f k (n + 1) start c.0 (omega (arith, low)) (subst IsNotTurned (sym c.4) tt) in
      has_step (n + 1) c.0 (n + 1) low (ap is_calling (alike.0 ∙ c.4))

  turns_called : (at n steps : ℕ) → run f k start steps ≡ Turned at n → MakesContractStep f k start → has_called f k start (n + 1) ≡ true
  turns_called at n steps is c = has_step k c.0 (n + 1) (made_before f k start (Turned at n) n steps tt refl is c) (ap is_calling c.4)

-- no contract step in so many steps
none_made : (f : Frame) (k : ℕ) (start : Start) (count : ℕ) → ((i : ℕ) → i < count → is_calling (run f k start i) ≡ false) →
    has_called f k start count ≡ false
none_made f k start zero each = refl
none_made f k start (suc count) each =
    ap (λ b. b || is_calling (run f k start count)) (none_made f k start count (λ i h. each i (omega (arith, h)))) ∙ each count (omega arith)

module _ (f : Frame) (k : ℕ) (start : Start) (never : ¬ MakesContractStep f k start) where
  not_calling : (i : ℕ) → is_calling (run f k start i) ≡ false
  not_calling i = by_run (run f k start i) refl
    where
      by_run : (x : Run) → run f k start i ≡ x → is_calling x ≡ false
      by_run (Going t m c) is = refl
      by_run (Arriving t m c) is = refl
      by_run (Calling t m c) is = absurd (never (i, t, m, c, is))
      by_run (Exited at m) is = refl
      by_run (Failed e at m) is = refl
      by_run (Turned at m) is = refl
      by_run (Cut at m) is = refl
      by_run (Broken l at m) is = refl

  fails_alone : (e : FrameEvent) (at n steps : ℕ) → run f k start steps ≡ Failed e at n → has_called f (n + 1) start (n + 1) ≡ false
  fails_alone e at n steps is =
      none_made f (n + 1) start (n + 1)
      (λ i low.
      let place : (n + 1 - i) + i ≡ n + 1 = omega (arith, low) in
      let last = ap (run f k start) place ∙ ended f k start steps (Failed e at n) tt is n refl in
      let alike = runs_alike f k (n + 1) start i (omega (arith, low)) (not_turned f k (n + 1) start (n + 1 - i) i (subst IsNotTurned (sym last) tt)) in
      ap is_calling alike.0 ∙ not_calling i)

  turns_alone : (n : ℕ) → has_called f k start (n + 1) ≡ false
  turns_alone n = none_made f k start (n + 1) (λ i low. not_calling i)

-- ---- what is shown

-- where the run makes no contract step, none is shown
none_shown : (f : Frame) (k : ℕ) (start : Start) (calls : List WrittenCall) → calls ≡ [] → ¬ MakesContractStep f k start → AreMade f k start calls
none_shown f k start calls none never =
    subst (AreMade f k start) (sym none)
    (record {
      each = λ i d l. absurd (omega (arith, l));
      whole = λ steps turns n c is quiet. absurd (never (steps, turns, n, c, is));
    })

module _ (f : Frame) (k : ℕ) (start : Start) (calls : List WrittenCall) (made : AreMade f k start calls) where
  blocks_fail : (e : FrameEvent) (at n steps : ℕ) → run f k start steps ≡ Failed e at n → block_cause f (FramedFails e at n) start calls ≡ None
  blocks_fail e at n steps is =
      let last = ended f k start steps (Failed e at n) tt is n refl in
      none_wrong f k start calls made (Failed e at n) n tt tt refl last (n + 1)
      (λ i low.
      let place : (n + 1 - i) + i ≡ n + 1 = omega (arith, low) in
      let behind = ap (run f k start) place ∙ last in
      (runs_alike f k (n + 1) start i (omega (arith, low)) (not_turned f k (n + 1) start (n + 1 - i) i (subst IsNotTurned (sym behind) tt))).0)

  blocks_turn : (at n steps : ℕ) → run f k start steps ≡ Turned at n → block_cause f (FramedTurns k at n) start calls ≡ None
  blocks_turn at n steps is =
      none_wrong f k start calls made (Turned at n) n tt tt refl (ended f k start steps (Turned at n) tt is n refl) k (λ i low. refl)

-- ---- the answer

abbrev replayed : CallEnding → Answer
replayed n = plain_answer 0 (line (codes "replayed " ++ joined (call_ending_words n)))

-- the invariants of a head are true in its head state
head_right : (f : Frame) (k : ℕ) (entry : State) (o : Option Place) → IsOrigin f k entry o → false_at_head f entry o ≡ None
head_right f k entry None origin = refl
head_right f k entry (Some c) origin = origin.1.invariants

module _ (f : Frame) (k : ℕ) (start : Start) (calls : List WrittenCall) (right : IsStart f k start) (n : CallEnding)
    (blocks : block_cause f (bare n) start calls ≡ None) where
  abbrev made : Bool
  made = has_called f (allowed (bare n)) start (step_of (bare n) + 1)

  replays : (h : Bool) (x : Found) → is_some start.head ≡ h → found f (bound_of (bare n)) start (step_of (bare n)) ≡ x → is_call_found n made h x ≡ true →
      call_run_answer f n start calls ≡ replayed n
  replays h x from is named =
      let o = outcome f (bare n) start calls in
      ap (λ b. call_start_answer b f n start calls) (eq-eqb (start.state.regs f.program.machine.link % unit f.program.machine.narrow) 0 right.entry.link)
      ∙ ap (λ r. needs_answer r (false_at_head f start.state start.head) n o) right.entry.requires
      ∙ ap (λ r. call_head_answer r n o) (head_right f k start.state start.head right.origin)
      ∙ ap (λ b. block_answer b n made o.from_head o.found) blocks
      ∙ ap (λ b. call_ending_answer (is_call_found n made b o.found) n made b o.found) from
      ∙ ap (λ y. call_ending_answer (is_call_found n made h y) n made h y) is
      ∙ ap (λ b. call_ending_answer b n made h x) named

-- an event is itself
same_step_event : (e : Event) → same_event e e ≡ true
same_step_event (AssertFails n) = same_number n
same_step_event FetchFails = refl
same_step_event NoRow = refl
same_step_event HalfwordFails = refl
same_step_event CodeWritten = refl
same_step_event Trapped = refl
same_step_event AlignFails = refl
same_step_event JumpFails = refl
same_step_event (EnsureFails n) = same_number n

same_as_itself : (e : FrameEvent) → same_frame_event e e ≡ true
same_as_itself (OfStep e) = same_step_event e
same_as_itself (InvariantFails n) = same_number n
same_as_itself (NeedsFails n) = same_number n
same_as_itself WritesFails = refl
same_as_itself (GivesFails n) = same_number n
same_as_itself ModifiesFails = refl

-- the frame's ending is one for which it is not proved
of_frame : (name : FrameName) (b : Bool) → (name ≡ EntryFrame → b ≡ true) → is_of_frame name b ≡ true
of_frame EntryFrame b is = is refl
of_frame (ContractFrame a) b is = refl

event_named : (name : FrameName) (e : FrameEvent) (at step : ℕ) (called : Bool) → is_of_frame name called ≡ true →
    is_call_found (UnprovedBy name e at step) called false (FoundEvent e at step) ≡ true
event_named name e at step called made = rw (made, same_as_itself e, same_number at, same_number step) refl

turn_named : (name : FrameName) (k at step : ℕ) (called : Bool) → is_of_frame name called ≡ true →
    is_call_found (UnprovedTurns name k at step) called false (FoundTurn at step) ≡ true
turn_named name k at step called made = rw (made, same_number at, same_number step) refl

-- a frame by its name is that of its rank
no_more : {A : Type 0} (xs : List A) → slice_get xs (length xs) ≡ None
no_more [] = refl
no_more (x ∷ xs) = no_more xs

frame_is : (w : Whole) (name : FrameName) → frame_of w (rank_named w name) ≡ frame_named w name
frame_is w EntryFrame = ap (frame_by w (last_rank w)) (no_more w.contracts)
frame_is w (ContractFrame a) = refl

-- what the right report says of the frame of a name
record IsShownEnd (w : Whole) (layout : Layout) (k : ℕ) (name : FrameName) (s : Shown) (m : Named) (f : Frame) : Type 0 where
  start : IsStart f k (shown_start w f layout s)
  ends : EndsAs f k (shown_start w f layout s) m
  blocks : AreMade f k (shown_start w f layout s) s.calls
  made : rank_named w name ≡ last_rank w → MakesContractStep f k (shown_start w f layout s)

rank_is : (w : Whole) (name : FrameName) → name ≡ EntryFrame → rank_named w name ≡ last_rank w
rank_is w name e = ap (rank_named w) e

-- an event from the entry has no head state
no_head : (w : Whole) (layout : Layout) (b : Budget) (e : FrameEvent) (at step : ℕ) (start : Written) (o : Option WrittenHead) (calls : List WrittenCall) →
    IsRightReport w layout b (NamedReport (ByEvent e at step)) (ShownBy (record { start = start; head = o; calls = calls })) → o ≡ None
no_head w layout b e at step start None calls right = refl
no_head w layout b e at step start (Some h) calls right = absurd right.7

-- a head state that is there
some_head : (f : Frame) (layout : Layout) (o : Option WrittenHead) → o ≢ None → is_some (head_of f layout o) ≡ true
some_head f layout None some = absurd (some refl)
some_head f layout (Some h) some = refl

none_head : (f : Frame) (layout : Layout) (o : Option WrittenHead) → o ≡ None → is_some (head_of f layout o) ≡ false
none_head f layout o e = ap (λ (x : Option WrittenHead). is_some (head_of f layout x)) e

module _ (w : Whole) (layout : Layout) (b : Budget) (s : Shown) where
  abbrev frame : Frame
  frame = entry_frame w

  abbrev begun : Start
  begun = shown_start w frame layout s

  abbrev Right : CallEnding → Type 0
  Right n = IsRightReport w layout b (report_of w n) (ShownBy s)

  abbrev Answers : CallEnding → Type 0
  Answers n = call_run_answer (frame_named w (frame_name n)) n (shown_start w (frame_named w (frame_name n)) layout s) s.calls ≡ replayed n

  by_fails : (e : FrameEvent) (at step : ℕ) → Right (Plain (FramedFails e at step)) →
      Answers (Plain (FramedFails e at step))
  by_fails e at step right =
      let n = Plain (FramedFails e at step) in
      let blocks = blocks_fail frame b.unroll begun s.calls (none_shown frame b.unroll begun s.calls right.2 right.6) e at step right.5.0 right.5.1 in
      let never = fails_alone frame b.unroll begun right.6 e at step right.5.0 right.5.1 in
      replays frame b.unroll begun s.calls right.4 n blocks false (FoundEvent e at step)
      (none_head frame layout s.head (no_head w layout b e at step s.start s.head s.calls right))
      (fails_found frame b.unroll begun e at step right.5.0 right.5.1)
      (rw (never, same_as_itself e, same_number at, same_number step) refl)

  by_turns : (k at step : ℕ) → k ≡ b.unroll → Right (Plain (FramedTurns k at step)) →
      Answers (Plain (FramedTurns k at step))
  by_turns k at step same right =
      let n = Plain (FramedTurns k at step) in
      let ends = subst (λ j. EndsAs frame j begun (ByTurn at step)) (sym same) right.5 in
      let none = subst (λ j. ¬ MakesContractStep frame j begun) (sym same) right.6 in
      let never = turns_alone frame k begun none step in
      let blocks = blocks_turn frame k begun s.calls (none_shown frame k begun s.calls right.2 none) at step ends.0 ends.1 in
      replays frame k begun s.calls (subst (λ j. IsStart frame j begun) (sym same) right.4) n blocks (is_some begun.head) (FoundTurn at step) refl
      (turns_found frame k begun at step ends.0 ends.1)
      (rw (never, same_number at, same_number step) refl)

  by_inductive : (e : FrameEvent) (at step : ℕ) → Right (Plain (NotInductiveBy e at step)) →
      Answers (Plain (NotInductiveBy e at step))
  by_inductive e at step right =
      let n = Plain (NotInductiveBy e at step) in
      let never = never_called frame right.1 (step + 1) begun (step + 1) in
      let none : ¬ MakesContractStep frame b.unroll begun =
      λ m. (let z : true ≡ false = ap is_calling (sym m.4) ∙ never_calling frame right.1 b.unroll begun m.0 in let no : ⊥ = cc in no) in
      let blocks = blocks_fail frame b.unroll begun s.calls (none_shown frame b.unroll begun s.calls right.4 none) e at step right.7.0 right.7.1 in
      replays frame b.unroll begun s.calls right.6 n blocks true (FoundEvent e at step) (some_head frame layout s.head right.3)
      (fails_found frame b.unroll begun e at step right.7.0 right.7.1)
      (rw (never, same_as_itself e, same_number at, same_number step) refl)

  by_unproved : (name : FrameName) (e : FrameEvent) (at step : ℕ) → Right (UnprovedBy name e at step) →
      Answers (UnprovedBy name e at step)
  by_unproved name e at step right =
      let f = frame_named w name in
      let start = shown_start w f layout s in
      let shown = subst (IsShownEnd w layout b.unroll name s (ByEvent e at step)) (frame_is w name)
      (record { start = right.5; ends = right.6; blocks = right.7; made = right.8 }) in
      let made = has_called f (step + 1) start (step + 1) in
      let blocks = blocks_fail f b.unroll start s.calls shown.blocks e at step shown.ends.0 shown.ends.1 in
      replays f b.unroll start s.calls shown.start (UnprovedBy name e at step) blocks false (FoundEvent e at step) (none_head f layout s.head right.3)
      (fails_found f b.unroll start e at step shown.ends.0 shown.ends.1)
      (event_named name e at step made
      (of_frame name made (λ is. fails_called f b.unroll start e at step shown.ends.0 shown.ends.1 (shown.made (rank_is w name is)))))

  by_unproved_turns : (name : FrameName) (k at step : ℕ) → k ≡ b.unroll → Right (UnprovedTurns name k at step) →
      Answers (UnprovedTurns name k at step)
  by_unproved_turns name k at step same right =
      let f = frame_named w name in
      let start = shown_start w f layout s in
      let shown = subst (λ j. IsShownEnd w layout j name s (ByTurn at step) f) (sym same)
      (subst (IsShownEnd w layout b.unroll name s (ByTurn at step)) (frame_is w name) (record { start = right.5; ends = right.6; blocks = right.7; made = right.8 })) in
      let made = has_called f k start (step + 1) in
      let blocks = blocks_turn f k start s.calls shown.blocks at step shown.ends.0 shown.ends.1 in
      replays f k start s.calls shown.start (UnprovedTurns name k at step) blocks false (FoundTurn at step) (none_head f layout s.head right.3)
      (turns_found f k start at step shown.ends.0 shown.ends.1)
      (turn_named name k at step made
      (of_frame name made (λ is. turns_called f k start at step shown.ends.0 shown.ends.1 (shown.made (rank_is w name is)))))

pub frame_reports_replay : FrameReportsReplay
frame_reports_replay w layout b (Plain (FramedFails e at step)) s turns right = by_fails w layout b s e at step right
frame_reports_replay w layout b (Plain (FramedTurns k at step)) s turns right = by_turns w layout b s k at step turns right
frame_reports_replay w layout b (Plain (NotInductiveBy e at step)) s turns right = by_inductive w layout b s e at step right
frame_reports_replay w layout b (UnprovedBy name e at step) s turns right = by_unproved w layout b s name e at step right
frame_reports_replay w layout b (UnprovedTurns name k at step) s turns right = by_unproved_turns w layout b s name k at step turns right
