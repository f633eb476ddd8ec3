-- The answer to a report by the first of its causes.
use Rattle.std.proofs.Common.{◌≡◌, ℕ, ◌-◌, ◌≤◌, ◌<◌, ◌+◌, ◌%◌, ◌++◌, List, [], ◌∷◌, length, true, false, refl, ap, sym, ◌∙◌, subst, arith, append_assoc, ne_eqb, eq-eqb}
use Rattle.std.specs.Prelude.{Bool, Option, Some, None, is_some, nat_lt, option_map, codes}
use Rattle.std.specs.Borrow.{Bor}
use Rattle.std.specs.Option.{option_copied}
use Rattle.std.proofs.lemmas.Bool.Decides.{nat_tests}
use Rattle.word_spec.specs.State.{State, Written}
use Rattle.word_spec.specs.Texts.{line, number_text, spaced}
use Rattle.clause_spec.specs.Checks.{text_limit}
use Rattle.machine_spec.specs.Machine.{unit, IsAtPlace}
use Rattle.machine_spec.specs.StateText.{Layout, IsWritten}
use Rattle.bilv_spec.specs.Answers.{start_in}
use Rattle.bilv_spec.specs.EntryFaults.{UnalignedLink, FalseRequire, IsEntryStateFault, false_require}
use Rattle.bilv_spec.specs.Run.{Program, false_assert}
use Rattle.frame_spec.specs.Frames.{Frame, invariants_of}
use Rattle.frame_spec.specs.FrameFound.{Found, found}
use Rattle.frame_spec.specs.FrameReports.{head_of, head_place, shown_start}
use Rattle.frame_spec.specs.FrameRuns.{Start}
use Rattle.frame_spec.specs.FrameVerdict.{Whole, entry_frame}
use Rattle.call_spec.specs.Calls.{plain_answer}
use Rattle.frame_texts_spec.specs.CallReplays.{Outcome, allowed, frame_named, bare, block_answer, call_checks, call_ending_answer, call_head_answer, call_replay_answer, call_run_answer, call_sized_answer, call_start_answer, call_told_answer, entry_word, has_called, is_call_found, needs_answer, outcome}
use Rattle.frame_texts_spec.specs.CallTexts.{CallEnding, CallIs, CallText, CallTold, EntryFrame, FrameName, call_text_of, frame_name}
use Rattle.frame_texts_spec.specs.FrameTexts.{first_of}
use Rattle.frame_texts_spec.specs.FrameReplays.{bound_of, false_at_head, found_of, step_of}
use Rattle.frame_texts_spec.proofs.BlocklessReplays.{never_called, never_wrong}
use Rattle.start_value.specs.Starts.{written_of}
use Rattle.state_text.specs.Starts.{written_head_of}
use Rattle.state_text.specs.declared.start.HeadStart.{HeadStart}
use Rattle.table_run.specs.FrameEnds.{frame_of, start_shown}
use Rattle.frame_replay.specs.Readings as readings
use Rattle.frame_replay.specs.Readings.{is_kept_in}
use Rattle.frame_replay.proofs.Written as written

-- the text of a line with the fault of a head part, and of a block
pub head_text : (n : List ℕ) → codes "state: line " ++ (n ++ codes " S6 Head\n") ≡ line (codes "state: line" ++ spaced (n ∷ codes "S6 Head" ∷ []))
head_text n = ap (λ t. codes "state: line " ++ t) (sym (append_assoc n (codes " S6 Head") (10 ∷ [])))

pub block_text : (n : List ℕ) → codes "state: line " ++ (n ++ codes " S7 Call\n") ≡ line (codes "state: line" ++ spaced (n ∷ codes "S7 Call" ∷ []))
block_text n = ap (λ t. codes "state: line " ++ t) (sym (append_assoc n (codes " S7 Call") (10 ∷ [])))

module _ (f : Frame) (named : CallEnding) (start : Start) where
  -- what comes of the run, which has no blocks
  abbrev came : Outcome
  came = outcome f (bare named) start []

  pub unaligned_is : IsEntryStateFault f.program start.state UnalignedLink → call_start_answer false f named start [] ≡ call_run_answer f named start []
  unaligned_is odd =
      sym (ap (λ b. call_start_answer b f named start []) (ne_eqb (start.state.regs f.program.machine.link % unit f.program.machine.narrow) 0 odd))

  abbrev Even : Type 0
  Even = IsAtPlace f.program.machine.narrow (start.state.regs f.program.machine.link)

  aligned_is : (o : Option ℕ) → Even → false_require f.program start.state ≡ o →
      needs_answer o (false_at_head f start.state start.head) named came ≡ call_run_answer f named start []
  aligned_is o even is =
      sym (ap (λ b. call_start_answer b f named start []) (eq-eqb (start.state.regs f.program.machine.link % unit f.program.machine.narrow) 0 even)
      ∙ ap (λ r. needs_answer r (false_at_head f start.state start.head) named came) is)

  -- the answer to a false line is the same of all endings of the entry's frame
  pub required_is : (n : ℕ) → frame_name named ≡ EntryFrame → IsEntryStateFault f.program start.state (FalseRequire n) →
      plain_answer 9 (line (codes "state:" ++ spaced (codes "require" ∷ number_text n ∷ []))) ≡ call_run_answer f named start []
  required_is n entry fault =
      sym (ap (λ (g : FrameName). plain_answer 9 (line (codes "state:" ++ spaced (entry_word g ∷ number_text n ∷ [])))) entry)
      ∙ aligned_is (Some n) fault.0 fault.1

  pub head_is : (o : Option ℕ) → Even → false_require f.program start.state ≡ None → false_at_head f start.state start.head ≡ o →
      call_head_answer o named came ≡ call_run_answer f named start []
  head_is o even none is = sym (ap (λ r. call_head_answer r named came) is) ∙ aligned_is None even none

  -- a run without contract steps
  pub ended_is : f.stepped ≡ [] → let x = found_of f (bare named) start in
      call_ending_answer (is_call_found named false (is_some start.head) x) named false (is_some start.head) x ≡ call_head_answer None named came
  ended_is none =
      let x = found_of f (bare named) start in
      let k = allowed (bare named) in
      let steps = step_of (bare named) + 1 in
      sym (ap (λ w. block_answer (first_of w None) named (has_called f k start steps) (is_some start.head) x) (never_wrong f none k start steps)
      ∙ ap (λ b. block_answer None named b (is_some start.head) x) (never_called f none k start steps))

-- the first invariant that is false in a head state
pub false_is : (f : Frame) (form : Layout) (entry state : State) (a : Option (Bor HeadStart)) (h : Bor HeadStart) (o : Option ℕ) → a ≡ Some h →
    state ≡ (head_place f.program form (written_head_of h.now)).state →
    false_assert f.program.machine.endian (invariants_of f f.program.notes.asserts) state entry ≡ o →
    o ≡ false_at_head f entry (head_of f form (option_map (λ x. written_head_of x.now) a))
false_is f form entry state a h o some is e =
    sym e ∙ ap (λ s. false_assert f.program.machine.endian (invariants_of f f.program.notes.asserts) s entry) is
    ∙ sym (ap (λ (x : Option (Bor HeadStart)). false_at_head f entry (head_of f form (option_map (λ y. written_head_of y.now) x))) some)

-- a head state that is borrowed
start_as : (a : Option (Bor HeadStart)) (b : Option HeadStart) → option_copied a ≡ b →
    option_map (λ h. written_head_of h.now) a ≡ option_map written_head_of b
start_as None b e = ap (option_map written_head_of) e
start_as (Some h) b e = ap (option_map written_head_of) e

some_head : (f : Frame) (form : Layout) (a : Option (Bor HeadStart)) → is_some a ≡ is_some (head_of f form (option_map (λ h. written_head_of h.now) a))
some_head f form None = refl
some_head f form (Some h) = refl

-- the answer by what was found, where the start and the head state are those of a text
module _ (p : Program) (invariants : List ℕ) (form : Layout) (w : Written) (a : Option (Bor HeadStart)) (b : Option HeadStart) (same : option_copied a ≡ b)
    (named : CallEnding) where
  abbrev f : Frame
  f = frame_of p invariants

  abbrev seen : Start
  seen = start_shown p invariants form w (option_map (λ h. written_head_of h.now) a)

  abbrev start : Start
  start = start_shown p invariants form w (option_map written_head_of b)

  starts : seen ≡ start
  starts = ap (start_shown p invariants form w) (start_as a b same)

  module _ (state : State) (is : state ≡ (start_in p form w).state) (even : IsAtPlace p.machine.narrow (state.regs p.machine.link))
      (none : false_require p state ≡ None) (o : Option ℕ)
      (line : o ≡ false_at_head f state (head_of f form (option_map (λ h. written_head_of h.now) a))) where
    by_head : (x : Option ℕ) → o ≡ x → call_head_answer x named (outcome f (bare named) seen []) ≡ call_run_answer f named seen []
    by_head x e =
        head_is f named seen x (subst (λ (s : State). IsAtPlace p.machine.narrow (s.regs p.machine.link)) is even)
        (subst (λ (s : State). false_require p s ≡ None) is none) (sym (ap (λ (s : State). false_at_head f s seen.head) is) ∙ sym line ∙ e)

    pub answered_false : (n : ℕ) → o ≡ Some n → call_head_answer (Some n) named (outcome f (bare named) seen []) ≡ call_run_answer f named start []
    answered_false n e = by_head (Some n) e ∙ ap (λ x. call_run_answer f named x []) starts

    pub answered : (h : Bool) (k : Option ℕ) (limit : ℕ) (g : Found) → o ≡ None → h ≡ is_some a → k ≡ bound_of (bare named) →
        limit ≡ step_of (bare named) + 1 → g ≡ found f k seen (limit - 1) →
        call_ending_answer (is_call_found named false h g) named false h g ≡ call_run_answer f named start []
    answered h k limit g e from bound steps ends =
        let last : limit - 1 ≡ step_of (bare named) = omega (arith, steps) in
        ap (λ (t : Bool). call_ending_answer (is_call_found named false t g) named false t g) (from ∙ some_head f form a)
        ∙ ap (λ x. call_ending_answer (is_call_found named false (is_some seen.head) x) named false (is_some seen.head) x)
        (ends ∙ ap (λ (x : Option ℕ). found f x seen (limit - 1)) bound ∙ ap (found f (bound_of (bare named)) seen) last)
        ∙ ended_is f named seen refl ∙ by_head None e ∙ ap (λ x. call_run_answer f named x []) starts

-- ---- the answer to a text

pub large_is : (w : Whole) (returns : ℕ → Bool) (form : Layout) (text : List ℕ) → text_limit < length text →
    plain_answer 9 (line (codes "state: TooLarge")) ≡ call_replay_answer w returns form text
large_is w returns form text long =
    let large : nat_lt text_limit (length text) ≡ true = grind (arith, nat_tests, long) in
    sym (ap (λ b. call_sized_answer b w returns form text) large)

pub told_is : (w : Whole) (returns : ℕ → Bool) (layout form : Layout) (text : List ℕ) (told : CallTold) → length text ≤ text_limit → layout ≡ form →
    call_text_of layout (call_checks w returns) text ≡ told → call_told_answer w form told ≡ call_replay_answer w returns form text
told_is w returns layout form text told few same is =
    let small : nat_lt text_limit (length text) ≡ false = grind (arith, nat_tests, few) in
    sym (ap (λ b. call_sized_answer b w returns form text) small
    ∙ ap (call_told_answer w form) (sym (ap (λ (l : Layout). call_text_of l (call_checks w returns) text) same) ∙ is))

-- the head state of a text can be written
pub head_written : (layout form : Layout) (file : List ℕ) (o : Option HeadStart) → layout ≡ form →
    written.IsHeadWritten layout (is_kept_in file) (option_map written_head_of o) → readings.IsHeadWritten form file o
head_written layout form file None same e = tt
head_written layout form file (Some h) same e = subst (λ (l : Layout). IsWritten l (is_kept_in file) (written_of h.start)) same e

-- the answer to a text of the entry's frame without blocks is that of its run
pub blockless : (w : Whole) (form : Layout) (t : CallText) → frame_name t.named ≡ EntryFrame → t.calls ≡ [] →
    call_run_answer (entry_frame w) t.named (shown_start w (entry_frame w) form (record { start = t.start; head = t.head; calls = [] })) []
    ≡ call_told_answer w form (CallIs t)
blockless w form t entry none =
    sym (ap (λ (g : FrameName). call_run_answer (frame_named w g) t.named (shown_start w (frame_named w g) form (record { start = t.start; head = t.head; calls = t.calls }))
    t.calls) entry
    ∙ ap (λ calls. call_run_answer (entry_frame w) t.named (shown_start w (entry_frame w) form (record { start = t.start; head = t.head; calls = calls })) calls)
    none)
