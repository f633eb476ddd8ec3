-- Without invariants and contracts a text without a head part is answered as a report of a run of the tables.
use Rattle.std.proofs.Common.{◌≡◌, ℕ, ◌+◌, ◌∙◌, refl, ap, sym, List, [], ◌∷◌, length}
use Rattle.std.specs.Prelude.{Bool, true, false, Option, Some, None, ◌==◌, ◌&&◌, nat_eq, nat_lt, if◌then◌else◌}
use Rattle.std.specs.List.{list_any}
use Rattle.word_spec.specs.Texts.{split_lines}
use Rattle.clause_spec.specs.Checks.{text_limit}
use Rattle.machine_spec.specs.Endings.{NamedEnding, FailsBy, UnknownBy}
use Rattle.machine_spec.specs.Machine.{is_place}
use Rattle.machine_spec.specs.StateText.{Layout, Told, StateIs, StateRefused, state_of, told_of}
use Rattle.bilv_spec.specs.Run.{Program}
use Rattle.bilv_spec.specs.Answers.{start_in}
use Rattle.bilv_spec.specs.EntryFaults.{false_require}
use Rattle.bilv_spec.specs.Points.{is_kept_at, is_known_at}
use Rattle.bilv_spec.specs.Reports as reports
use Rattle.bilv_spec.specs.Replays as tables
use Rattle.word_spec.specs.State.{Written}
use Rattle.frame_spec.specs.FrameRuns.{Start}
use Rattle.frame_texts_spec.specs.FrameTexts.{framed, Checks, FramedEnding, FramedRefused, HeadFault, Mark, HeadMark, StackMark, Part, closed, ending_of, entry_part, framed_of, framed_told, is_none, part_of, stack_of, told_behind, told_head, told_mark, told_parts}
use Rattle.frame_texts_spec.specs.FrameTextLaws.{IsPlainFirst, HasNoHeadPart, without_head}
use Rattle.frame_texts_spec.specs.FrameReplays.{checks_of, frame_replay_answer, ending_answer, found_of, head_answer, is_found, require_answer, run_answer, sized_answer, start_answer, told_answer}
use Rattle.frame_texts_spec.proofs.Headless.{headless_is_state_text}
use Rattle.bilv_spec.specs.Notes.{Assert}
use Rattle.frame_spec.specs.Frames.{Contract, Frame, invariants_of, is_head}
use Rattle.frame_spec.specs.FrameFound.{as_found}
use Rattle.frame_spec.specs.FrameReports.{shown_start}
use Rattle.frame_spec.specs.FrameVerdict.{Whole, entry_frame}
use Rattle.frame_spec.specs.Theorems.{headless}
use Rattle.frame_spec.proofs.HeadlessFound.{found_headless}
use Rattle.frame_texts_spec.specs.ReplayLaws.{HeadlessReplay, NoReturnsAsked}

-- the answer to what a run of the tables came to
by_ending : (b : Bool) (n : NamedEnding) (x : reports.Found) → ending_answer b (framed n) false (as_found x) ≡ tables.ending_answer b n x
by_ending true (FailsBy e at step) x = refl
by_ending true (UnknownBy k at step) x = refl
by_ending false (FailsBy e at step) (reports.FoundExit a n) = refl
by_ending false (FailsBy e at step) (reports.FoundEvent f a n) = refl
by_ending false (FailsBy e at step) (reports.FoundTurn a n) = refl
by_ending false (FailsBy e at step) (reports.FoundLeft a n) = refl
by_ending false (UnknownBy k at step) (reports.FoundExit a n) = refl
by_ending false (UnknownBy k at step) (reports.FoundEvent f a n) = refl
by_ending false (UnknownBy k at step) (reports.FoundTurn a n) = refl
by_ending false (UnknownBy k at step) (reports.FoundLeft a n) = refl

found_same : (n : NamedEnding) (x : reports.Found) → is_found (framed n) false (as_found x) ≡ tables.is_found n x
found_same (FailsBy e at step) (reports.FoundExit a n) = refl
found_same (FailsBy e at step) (reports.FoundEvent f a n) = refl
found_same (FailsBy e at step) (reports.FoundTurn a n) = refl
found_same (FailsBy e at step) (reports.FoundLeft a n) = refl
found_same (UnknownBy k at step) (reports.FoundExit a n) = refl
found_same (UnknownBy k at step) (reports.FoundEvent f a n) = refl
found_same (UnknownBy k at step) (reports.FoundTurn a n) = refl
found_same (UnknownBy k at step) (reports.FoundLeft a n) = refl

by_head : (n : NamedEnding) (x : reports.Found) → head_answer None (framed n) false (as_found x) ≡ tables.ending_answer (tables.is_found n x) n x
by_head n x = ap (λ b. ending_answer b (framed n) false (as_found x)) (found_same n x) ∙ by_ending (tables.is_found n x) n x

by_require : (o : Option ℕ) (n : NamedEnding) (x : reports.Found) → require_answer o None (framed n) false (as_found x) ≡ tables.require_answer o n x
by_require (Some k) n x = refl
by_require None n x = by_head n x

-- a program without invariants and contracts
abbrev alone : Program → Whole
alone p = record { program = p; invariants = []; contracts = [] }

module _ (p : Program) (layout : Layout) (w : Written) where
  abbrev start : Start
  start = shown_start (alone p) (headless p) layout (record { start = w; head = None; calls = [] })

  found_is : (n : NamedEnding) → found_of (headless p) (framed n) start ≡ as_found (tables.found_of p n (start_in p layout w))
  found_is (FailsBy e at step) = found_headless p None start step refl
  found_is (UnknownBy k at step) = found_headless p (Some k) start step refl

  by_start : (b : Bool) (n : NamedEnding) → start_answer b (headless p) (framed n) start ≡ tables.start_answer b p n (start_in p layout w)
  by_start false n = refl
  by_start true n =
      ap (require_answer (false_require p (start_in p layout w).state) None (framed n) false) (found_is n)
      ∙ by_require (false_require p (start_in p layout w).state) n (tables.found_of p n (start_in p layout w))

  by_run : (n : NamedEnding) → run_answer (headless p) (framed n) start ≡ tables.run_answer p n (start_in p layout w)
  by_run n = by_start (is_place p.machine.narrow ((start_in p layout w).state.regs p.machine.link)) n

by_told : (p : Program) (layout : Layout) (told : Told) → told_answer (alone p) layout (without_head told) ≡ tables.told_answer p layout told
by_told p layout (StateRefused n f) = refl
by_told p layout (StateIs t) = by_run p layout t.start t.named

by_size : (b : Bool) (p : Program) (returns : ℕ → Bool) (layout : Layout) (text : List ℕ) → IsPlainFirst (split_lines text) →
    HasNoHeadPart layout (split_lines text) → sized_answer b (alone p) returns layout text ≡ tables.sized_answer b p layout text
by_size true p returns layout text plain none = refl
by_size false p returns layout text plain none =
    ap (told_answer (alone p) layout) (headless_is_state_text layout (checks_of (alone p) returns) text plain none)
    ∙ by_told p layout (state_of layout (is_known_at p) text)

pub headless_replay : HeadlessReplay
headless_replay w none free returns layout text plain no_head =
    let same : w ≡ alone w.program =
    ap (λ (is : List ℕ). record { program = w.program; invariants = is; contracts = w.contracts }) none
    ∙ ap (λ (cs : List Contract). record { program = w.program; invariants = []; contracts = cs }) free in
    ap (λ (v : Whole). frame_replay_answer v returns layout text) same
    ∙ by_size (nat_lt text_limit (length text)) w.program returns layout text plain no_head

-- ---- no test of return addresses is asked where there is no head

and_false : (b : Bool) → (b && false) ≡ false
and_false true = refl
and_false false = refl

no_invariant : (f : Frame) (asserts : List Assert) → f.invariants ≡ [] → invariants_of f asserts ≡ []
no_invariant f [] none = refl
no_invariant f (a ∷ rest) none =
    ap (λ (is : List ℕ). if list_any (nat_eq a.line) is then a ∷ invariants_of f rest else invariants_of f rest) none ∙ no_invariant f rest none

no_head : (f : Frame) (a : ℕ) → f.invariants ≡ [] → is_head f a ≡ false
no_head f a none =
    ap (λ (l : List Assert). f.cuts && list_any (λ x. x.at == a) l) (no_invariant f f.program.notes.asserts none) ∙ and_false f.cuts

module _ (layout : Layout) (known kept heads one other : ℕ → Bool) (none : (a : ℕ) → heads a ≡ false) where
  abbrev by_one : Checks
  by_one = record { known = known; kept = kept; heads = heads; returns = one }

  abbrev by_other : Checks
  by_other = record { known = known; kept = kept; heads = heads; returns = other }

  same_mark : (n : FramedEnding) (line : ℕ) (m : Mark) (rest : List (List ℕ)) (t : Told) →
      told_mark layout by_one n line m rest t ≡ told_mark layout by_other n line m rest t
  same_mark n line m rest (StateRefused k f) = refl
  same_mark n line (StackMark a) rest (StateIs t) = refl
  same_mark n line (HeadMark a) rest (StateIs t) =
      let away : (is_none t.start.choices && heads a) ≡ false = ap (λ b. is_none t.start.choices && b) (none a) ∙ and_false (is_none t.start.choices) in
      ap (λ b. if b then told_head layout by_one n t.start a line (stack_of layout rest) else FramedRefused line HeadFault) away
      ∙ sym (ap (λ b. if b then told_head layout by_other n t.start a line (stack_of layout rest) else FramedRefused line HeadFault) away)

  same_behind : (o : Option FramedEnding) (p : Part) → told_behind layout by_one o p ≡ told_behind layout by_other o p
  same_behind None p = refl
  same_behind (Some n) p = by_mark p.behind
    where
      by_mark : (m : Option (Mark × List (List ℕ))) → told_parts layout by_one n p.lines m ≡ told_parts layout by_other n p.lines m
      by_mark None = refl
      by_mark (Some m) =
          same_mark n (length p.lines + 2) m.0 m.1 (told_of layout known (closed (entry_part layout p.lines)))

  same_told : (text : List ℕ) → framed_of layout by_one text ≡ framed_of layout by_other text
  unfolding framed_of
  same_told text = by_lines (split_lines text)
    where
      by_lines : (ls : List (List ℕ)) → framed_told layout by_one ls ≡ framed_told layout by_other ls
      by_lines [] = refl
      by_lines (first ∷ rest) = same_behind (ending_of layout first) (part_of layout rest)

pub no_returns_asked : NoReturnsAsked
no_returns_asked w none one other layout text = by_large (nat_lt text_limit (length text))
  where
    by_large : (b : Bool) → sized_answer b w one layout text ≡ sized_answer b w other layout text
    by_large true = refl
    by_large false =
        ap (told_answer w layout)
        (same_told layout (is_known_at w.program) (is_kept_at w.program) (is_head (entry_frame w)) one other (λ a. no_head (entry_frame w) a none) text)
