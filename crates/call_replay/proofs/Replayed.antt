-- The answer to a report by the first of its causes.
use Rattle.std.proofs.Common.{◌≡◌, ℕ, ◌-◌, ◌≤◌, ◌<◌, ◌+◌, ◌%◌, ◌^◌, List, length, true, false, ap, sym, ◌∙◌, subst, arith, ne_eqb, eq-eqb}
use Rattle.std.specs.Prelude.{Bool, Option, Some, None, if◌then◌else◌, is_some, nat_lt}
use Rattle.std.proofs.lemmas.Bool.Decides.{nat_tests}
use Rattle.word_spec.specs.State.{State, Written}
use Rattle.word_spec.specs.Words.{word}
use Rattle.clause_spec.specs.Checks.{text_limit}
use Rattle.machine_spec.specs.Machine.{unit, IsAtPlace}
use Rattle.machine_spec.specs.StateText.{Layout, known_or}
use Rattle.bilv_spec.specs.Answers.{known_byte, start_in}
use Rattle.bilv_spec.specs.EntryFaults.{UnalignedLink, FalseRequire, IsEntryStateFault, false_require}
use Rattle.bilv_spec.specs.Points.{byte_of_cell}
use Rattle.bilv_spec.specs.Reports.{turns_within}
use Rattle.bilv_spec.specs.Run.{Place, Program}
use Rattle.bilv_spec.specs.Verdict.{IsEntryState}
use Rattle.frame_spec.specs.Frames.{Frame}
use Rattle.frame_spec.specs.FrameFound.{found}
use Rattle.frame_spec.specs.FrameReports.{WrittenCall, WrittenHead, shown_start}
use Rattle.frame_spec.specs.FrameRuns.{Start}
use Rattle.frame_spec.specs.FrameVerdict.{Whole}
use Rattle.frame_texts_spec.specs.CallReplays.{bare, block_answer, call_checks, call_replay_answer, call_run_answer, call_sized_answer, call_start_answer, call_told_answer, frame_named, has_called, needs_answer, outcome}
use Rattle.frame_texts_spec.specs.CallTexts.{CallEnding, CallIs, CallText, CallTold, call_text_of, frame_name}
use Rattle.frame_texts_spec.specs.FrameReplays.{bound_of, false_at_head, step_of}
use Rattle.frame_texts_spec.specs.FrameTexts.{FramedEnding}
use Rattle.table_run.specs.CalledRuns.{IsFoundAs, cause_of, cause_within}
use Rattle.table_run.specs.Known.{IsRightTo}
use Rattle.table_run.specs.declared.ending.CalledRun.{CalledRun}
use Rattle.call_replay.specs.Found.{IsOutcome}

module _ (f : Frame) (n : CallEnding) (start : Start) (calls : List WrittenCall) where
  pub unaligned_is : IsEntryStateFault f.program start.state UnalignedLink → call_start_answer false f n start calls ≡ call_run_answer f n start calls
  unaligned_is odd =
      sym (ap (λ b. call_start_answer b f n start calls) (ne_eqb (start.state.regs f.program.machine.link % unit f.program.machine.narrow) 0 odd))

  aligned_is : (o : Option ℕ) → IsAtPlace f.program.machine.narrow (start.state.regs f.program.machine.link) → false_require f.program start.state ≡ o →
      start.head ≡ None → needs_answer o None n (outcome f (bare n) start calls) ≡ call_run_answer f n start calls
  aligned_is o even is none =
      sym (ap (λ b. call_start_answer b f n start calls) (eq-eqb (start.state.regs f.program.machine.link % unit f.program.machine.narrow) 0 even)
      ∙ ap (λ r. needs_answer r (false_at_head f start.state start.head) n (outcome f (bare n) start calls)) is
      ∙ ap (λ (h : Option Place). needs_answer o (false_at_head f start.state h) n (outcome f (bare n) start calls)) none)

  pub false_first : (k : ℕ) → IsEntryStateFault f.program start.state (FalseRequire k) → start.head ≡ None →
      needs_answer (Some k) None n (outcome f (bare n) start calls) ≡ call_run_answer f n start calls
  false_first k fault none = aligned_is (Some k) fault.0 fault.1 none

  pub ended_is : IsEntryState f.program start.state → start.head ≡ None →
      let o = outcome f (bare n) start calls in block_answer o.wrong n o.called o.from_head o.found ≡ call_run_answer f n start calls
  ended_is entry none = aligned_is None entry.link entry.requires none

-- what a run of the code says of the run of a report
pub outcome_is : (f : Frame) (n : FramedEnding) (start : Start) (calls : List WrittenCall) (run : CalledRun) (limit : ℕ) (k : Option ℕ) →
    limit ≡ step_of n + 1 → k ≡ bound_of n → start.head ≡ None →
    cause_of run.ending ≡ cause_within f (turns_within (limit - 1) k) start calls (limit - 1) → IsFoundAs run.ending (found f k start (limit - 1)) →
    (cause_of run.ending ≡ None → run.called ≡ has_called f (turns_within (limit - 1) k) start limit) → IsOutcome run (outcome f n start calls)
outcome_is f n start calls run limit k steps bound none cause ends called =
    let last : limit - 1 ≡ step_of n = omega (arith, steps) in record {
      wrong = cause ∙ ap (λ j. cause_within f (turns_within (limit - 1) j) start calls (limit - 1)) bound
          ∙ ap (λ m. cause_within f (turns_within m (bound_of n)) start calls m) last;
      called = λ no. called no ∙ ap (λ j. has_called f (turns_within (limit - 1) j) start limit) bound
          ∙ ap (λ m. has_called f (turns_within m (bound_of n)) start limit) last
          ∙ ap (has_called f (turns_within (step_of n) (bound_of n)) start) steps;
      entry = ap (λ (h : Option Place). is_some h) none;
      found = subst (IsFoundAs run.ending) (ap (λ j. found f j start (limit - 1)) bound ∙ ap (found f (bound_of n) start) last) ends;
    }

-- a start has the file's bytes where they are known
pub right_of_start : (p : Program) (form : Layout) (w : Written) (s : State) → s ≡ (start_in p form w).state → IsRightTo p s (2 ^ 32)
right_of_start p form w s is a below (low, known, other) =
    let place : word 32 a ≡ a = omega (arith, low) in
    other (ap (λ (t : State). t.mem a) is ∙ ap (λ m. known_or (known_byte p m) w.bytes a) place
    ∙ ap (λ b. known_or (if b then Some (byte_of_cell (p.loaded a)) else None) w.bytes a) known)

-- the answer by the length of the text
pub large_is : (w : Whole) (returns : ℕ → Bool) (layout : Layout) (text : List ℕ) → text_limit < length text →
    call_sized_answer true w returns layout text ≡ call_replay_answer w returns layout text
large_is w returns layout text more =
    let test : nat_lt text_limit (length text) ≡ true = grind (arith, nat_tests) in
    sym (ap (λ b. call_sized_answer b w returns layout text) test)

pub told_is : (w : Whole) (returns : ℕ → Bool) (layout form : Layout) (text : List ℕ) (told r : CallTold) → length text ≤ text_limit → layout ≡ form →
    call_text_of layout (call_checks w returns) text ≡ r → r ≡ told → call_told_answer w form told ≡ call_replay_answer w returns form text
told_is w returns layout form text told r less same read is =
    let test : nat_lt text_limit (length text) ≡ false = grind (arith, nat_tests) in
    ap (call_told_answer w form) (sym (read ∙ is) ∙ ap (λ l. call_text_of l (call_checks w returns) text) same)
    ∙ sym (ap (λ b. call_sized_answer b w returns form text) test)

-- the answer to a run in the frame of its name, from a start without a head state
pub run_is : (w : Whole) (returns : ℕ → Bool) (layout form : Layout) (text : List ℕ) (t : CallText) (r : CallTold) (f : Frame) → length text ≤ text_limit →
    layout ≡ form → call_text_of layout (call_checks w returns) text ≡ r → r ≡ CallIs t → f ≡ frame_named w (frame_name t.named) → t.head ≡ None →
    call_run_answer f t.named (shown_start w f form (record { start = t.start; head = None; calls = t.calls })) t.calls
    ≡ call_replay_answer w returns form text
run_is w returns layout form text t r f less same read is frames none =
    let g = frame_named w (frame_name t.named) in
    ap (λ (x : Frame). call_run_answer x t.named (shown_start w x form (record { start = t.start; head = None; calls = t.calls })) t.calls) frames
    ∙ sym (ap (λ (o : Option WrittenHead). call_run_answer g t.named (shown_start w g form (record { start = t.start; head = o; calls = t.calls }))
    t.calls) none)
    ∙ told_is w returns layout form text (CallIs t) r less same read is
