-- Where notes have no contracts, a text without blocks is answered as it is without contracts.
use Rattle.std.proofs.Common.{◌≡◌, ℕ, zero, suc, ◌+◌, refl, ap, ◌∙◌, Bool, true, false, List, [], Option, Some, None, length}
use Rattle.std.specs.Prelude.{◌&&◌, ◌||◌, is_some, nat_eq, nat_le, nat_lt, if◌then◌else◌}
use Rattle.word_spec.specs.State.{State}
use Rattle.word_spec.specs.Texts.{split_lines}
use Rattle.clause_spec.specs.Checks.{text_limit}
use Rattle.machine_spec.specs.Machine.{is_place}
use Rattle.machine_spec.specs.StateText.{Layout}
use Rattle.bilv_spec.specs.EntryFaults.{false_require}
use Rattle.bilv_spec.specs.Run.{Place, Step, Stops, Arrives, Exits, step, false_assert}
use Rattle.frame_spec.specs.Frames.{Contract, Frame, contract_at, has_changed, is_head, is_outside, stored_by_row}
use Rattle.bilv_spec.specs.Run as tables
use Rattle.frame_spec.specs.FrameFound.{Found}
use Rattle.frame_spec.specs.FrameRuns.{FrameStep, Halts, GoesTo, Reaches, Calls, Leaves, Breaks, Start, Run, Going, Arriving, Calling, Exited, Failed, Turned, Cut, Broken, after_step, arrival, arrive, begins, frame_step, given_by, is_contract_call, lands, leaves_by, links_by, one_more, row_of_place, run, settles, turn, unless_outside}
use Rattle.frame_spec.specs.FrameReports.{shown_start}
use Rattle.frame_spec.specs.FrameVerdict.{Whole, entry_frame}
use Rattle.frame_texts_spec.specs.FrameTexts as texts
use Rattle.frame_texts_spec.specs.FrameTexts.{FramedEnding, FramedTold, FramedIs, FramedRefused, first_of, framed_of}
use Rattle.frame_texts_spec.specs.FrameReplays.{checks_of, ending_answer, false_at_head, found_of, head_answer, is_found, require_answer, run_answer, sized_answer, start_answer, step_of, told_answer}
use Rattle.frame_texts_spec.specs.CallTexts.{Plain}
use Rattle.frame_texts_spec.specs.CallReplays.{allowed, block_answer, call_checks, call_ending_answer, call_head_answer, call_run_answer, call_sized_answer, call_start_answer, call_told_answer, changes_of, first_wrong, has_called, is_calling, needs_answer, outcome, wrong_at}
use Rattle.frame_texts_spec.specs.CallTextLaws.{BlocklessReplay, HasNoBlock, IsFramedFirst, without_blocks}
use Rattle.frame_texts_spec.proofs.Blockless.{blockless_is_framed}

-- a run that steps over no contract makes no contract step
module _ (f : Frame) (none : f.stepped ≡ []) where
  abbrev IsNoCall : FrameStep → Type 0
  IsNoCall (Halts e) = Unit {0}
  IsNoCall (GoesTo c) = Unit {0}
  IsNoCall (Reaches c) = Unit {0}
  IsNoCall (Calls c) = ⊥
  IsNoCall (Leaves s) = Unit {0}
  IsNoCall (Breaks line) = Unit {0}

  no_call : (c d : Place) → is_contract_call f c d ≡ false
  no_call c d =
      ap (λ (l : List Contract). is_some (contract_at l d.state.pc) && nat_lt (length c.stack) (length d.stack) && links_by (row_of_place f c)) none

  lands_no_call : (c d : Place) → IsNoCall (lands f c d)
  lands_no_call c d = by_tests (is_head f d.state.pc) (is_contract_call f c d) (no_call c d)
    where
      by_tests : (h t : Bool) → t ≡ false → IsNoCall (if h then Reaches d else if t then Calls d else GoesTo d)
      by_tests true t e = tt
      by_tests false false e = tt
      by_tests false true e = let z : true ≡ false = e in cc

  leaves_no_call : (own : Option Contract) (entry s : State) → IsNoCall (leaves_by own f entry s)
  leaves_no_call None entry s = tt
  leaves_no_call (Some x) entry s =
      by_line (tables.false_line f.program.machine.endian x.gives s entry) (has_changed f x entry s)
    where
      by_line : (o : Option ℕ) (b : Bool) → IsNoCall (given_by o b s)
      by_line (Some line) b = tt
      by_line None true = tt
      by_line None false = tt

  settles_no_call : (entry : State) (c : Place) (s : Step) → IsNoCall (settles f entry c s)
  settles_no_call entry c (Stops e) = tt
  settles_no_call entry c (Arrives d) = lands_no_call c d
  settles_no_call entry c (Exits s) = leaves_no_call f.own entry s

  step_no_call : (entry : State) (c : Place) (outside : Bool) (s : Step) → IsNoCall (unless_outside outside f entry c s)
  step_no_call entry c false s = settles_no_call entry c s
  step_no_call entry c true (Stops e) = tt
  step_no_call entry c true (Arrives d) = tt
  step_no_call entry c true (Exits s) = tt

  goes_on : (b t : Bool) (turns n at : ℕ) (c : Place) → is_calling (turn Going t turns n at c) ≡ false
  goes_on b true turns n at c = refl
  goes_on b false turns n at c = refl

  arrives : (b : Bool) (k turns n at : ℕ) (c : Place) → is_calling (arrive Going b k turns n at c) ≡ false
  arrives false k turns n at c = refl
  arrives true k turns n at c = goes_on true (nat_eq turns k) turns n at c

  behind_step : (k turns n at : ℕ) (s : FrameStep) → IsNoCall s → is_calling (after_step k turns n at s) ≡ false
  behind_step k turns n at (Halts e) h = refl
  behind_step k turns n at (GoesTo c) h = arrives (nat_le c.state.pc at) k turns n at c
  behind_step k turns n at (Reaches c) h = refl
  behind_step k turns n at (Calls c) h = absurd h
  behind_step k turns n at (Leaves s) h = refl
  behind_step k turns n at (Breaks line) h = refl

  at_head : (o : Option ℕ) (n at : ℕ) → is_calling (arrival f o n at) ≡ false
  at_head None n at = refl
  at_head (Some line) n at = refl

  next_no_call : (k : ℕ) (start : Start) (r : Run) → is_calling r ≡ false → is_calling (one_more f k start r) ≡ false
  next_no_call k start (Going turns n c) e =
      behind_step k turns n c.state.pc (frame_step f start.state c (start.choices n))
      (step_no_call start.state c (is_outside f.own f.program.machine.endian start.state (stored_by_row (row_of_place f c) c.state))
      (step f.program start.state c (start.choices n)))
  next_no_call k start (Arriving turns n c) e =
      at_head (false_assert f.program.machine.endian f.program.notes.asserts c.state start.state) n c.state.pc
  next_no_call k start (Calling turns n c) e = let z : true ≡ false = e in cc
  next_no_call k start (Exited at n) e = refl
  next_no_call k start (Failed x at n) e = refl
  next_no_call k start (Turned at n) e = refl
  next_no_call k start (Cut at n) e = refl
  next_no_call k start (Broken line at n) e = refl

  begins_no_call : (s : State) (o : Option Place) → is_calling (begins f s o) ≡ false
  begins_no_call s (Some c) = refl
  begins_no_call s None = by_test (is_head f s.pc)
    where
      by_test : (b : Bool) → is_calling (if b then Arriving 0 0 (record { state = s; stack = [] }) else Going 0 0 (record { state = s; stack = [] })) ≡ false
      by_test true = refl
      by_test false = refl

  pub never_calling : (k : ℕ) (start : Start) (n : ℕ) → is_calling (run f k start n) ≡ false
  unfolding run
  never_calling k start zero = begins_no_call start.state start.head
  never_calling k start (suc n) = next_no_call k start (run f k start n) (never_calling k start n)

  -- so no block is wrong where there is none
  none_wrong : (start : Start) (n : ℕ) (r : Run) → is_calling r ≡ false → wrong_at f start [] n r ≡ None
  none_wrong start n (Going turns m c) e = refl
  none_wrong start n (Arriving turns m c) e = refl
  none_wrong start n (Calling turns m c) e = let z : true ≡ false = e in cc
  none_wrong start n (Exited at m) e = refl
  none_wrong start n (Failed x at m) e = refl
  none_wrong start n (Turned at m) e = refl
  none_wrong start n (Cut at m) e = refl
  none_wrong start n (Broken line at m) e = refl

  pub never_wrong : (k : ℕ) (start : Start) (n : ℕ) → first_wrong f k start [] n ≡ None
  never_wrong k start zero = refl
  never_wrong k start (suc n) =
      ap (λ o. first_of o (wrong_at f start [] n (run f k start n))) (never_wrong k start n) ∙ none_wrong start n (run f k start n) (never_calling k start n)

  pub never_called : (k : ℕ) (start : Start) (n : ℕ) → has_called f k start n ≡ false
  never_called k start zero = refl
  never_called k start (suc n) =
      ap (λ b. b || is_calling (run f k start n)) (never_called k start n) ∙ never_calling k start n

  -- the answers
  same_ending : (b : Bool) (n : FramedEnding) (h : Bool) (x : Found) → call_ending_answer b (Plain n) false h x ≡ ending_answer b n h x
  same_ending true n h x = refl
  same_ending false n h x = refl

  same_head : (o : Option ℕ) (n : FramedEnding) (start : Start) →
      call_head_answer o (Plain n) (outcome f n start []) ≡ head_answer o n (is_some start.head) (found_of f n start)
  same_head (Some k) n start = refl
  same_head None n start =
      let h = is_some start.head in
      let x = found_of f n start in
      ap (λ w. block_answer (first_of w None) (Plain n) (has_called f (allowed n) start (step_of n + 1)) h x)
      (never_wrong (allowed n) start (step_of n + 1))
      ∙ ap (λ b. block_answer None (Plain n) b h x) (never_called (allowed n) start (step_of n + 1)) ∙ same_ending (is_found n h x) n h x

  same_require : (o head : Option ℕ) (n : FramedEnding) (start : Start) →
      needs_answer o head (Plain n) (outcome f n start []) ≡ require_answer o head n (is_some start.head) (found_of f n start)
  same_require (Some k) head n start = refl
  same_require None head n start = same_head head n start

  same_start : (b : Bool) (n : FramedEnding) (start : Start) → call_start_answer b f (Plain n) start [] ≡ start_answer b f n start
  same_start false n start = refl
  same_start true n start = same_require (false_require f.program start.state) (false_at_head f start.state start.head) n start

  pub same_run : (n : FramedEnding) (start : Start) → call_run_answer f (Plain n) start [] ≡ run_answer f n start
  same_run n start = same_start (is_place f.program.machine.narrow (start.state.regs f.program.machine.link)) n start

module _ (w : Whole) (none : w.contracts ≡ []) (layout : Layout) where
  same_told : (told : FramedTold) → call_told_answer w layout (without_blocks told) ≡ told_answer w layout told
  same_told (FramedRefused n f) = refl
  same_told (FramedIs t) = same_run (entry_frame w) none t.named (shown_start w (entry_frame w) layout (texts.shown_of t))

  same_sized : (b : Bool) (returns : ℕ → Bool) (text : List ℕ) → IsFramedFirst (changes_of w) (split_lines text) → HasNoBlock (split_lines text) →
      call_sized_answer b w returns layout text ≡ sized_answer b w returns layout text
  same_sized true returns text first free = refl
  same_sized false returns text first free =
      ap (call_told_answer w layout) (blockless_is_framed layout (call_checks w returns) text first free)
      ∙ same_told (framed_of layout (checks_of w returns) text)

pub blockless_replay : BlocklessReplay
blockless_replay w returns layout text none first free = same_sized w none layout (nat_lt text_limit (length text)) returns text first free
