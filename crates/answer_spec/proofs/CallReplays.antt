-- No test of return addresses is asked where there is no head, also of a report with blocks.
use Rattle.std.proofs.Common.{◌≡◌, ℕ, ◌+◌, refl, ap, sym, ◌∙◌, Bool, true, false, List, [], ◌∷◌, ◌++◌, Option, Some, None, length}
use Rattle.std.specs.Prelude.{◌==◌, ◌&&◌, nat_eq, nat_lt, codes, slice_get, if◌then◌else◌}
use Rattle.std.specs.List.{list_any}
use Rattle.word_spec.specs.Texts.{split_lines}
use Rattle.clause_spec.specs.Checks.{text_limit}
use Rattle.machine_spec.specs.StateText.{Layout, Told, StateIs, StateRefused, told_of}
use Rattle.bilv_spec.specs.Notes.{Assert}
use Rattle.bilv_spec.specs.Points.{is_kept_at, is_known_at}
use Rattle.frame_spec.specs.Frames.{Contract, Frame, invariants_of, is_head}
use Rattle.frame_spec.specs.FrameVerdict.{Whole, frame_by}
use Rattle.frame_texts_spec.specs.FrameTexts.{Checks, FramedEnding, FramedRefused, HeadFault, Mark, HeadMark, StackMark, Part, closed, entry_part, is_none, part_of, stack_of, told_behind, told_head, told_mark, told_parts}
use Rattle.frame_texts_spec.specs.CallTexts.{FrameName, EntryFrame, ContractFrame, CallEnding, Body, InBlocks, BlocksAre, body_of, blocks_told, call_ending_of, call_text_of, call_told, frame_name, some_framed, told_after, told_before, told_body, told_by_both}
use Rattle.frame_texts_spec.specs.CallReplays.{call_checks, call_replay_answer, call_sized_answer, call_told_answer, changes_of, frame_named, rank_at}

and_false : (b : Bool) → (b && false) ≡ false
and_false true = refl
and_false false = refl

no_invariant : (f : Frame) (asserts : List Assert) → f.invariants ≡ [] → invariants_of f asserts ≡ []
no_invariant f [] none = refl
no_invariant f (a ∷ rest) none =
    ap (λ (is : List ℕ). if list_any (nat_eq a.line) is then a ∷ invariants_of f rest else invariants_of f rest) none ∙ no_invariant f rest none

pub no_head : (f : Frame) (a : ℕ) → f.invariants ≡ [] → is_head f a ≡ false
no_head f a none =
    ap (λ (l : List Assert). f.cuts && list_any (λ x. x.at == a) l) (no_invariant f f.program.notes.asserts none) ∙ and_false f.cuts

-- the frames of notes without invariants have none
pub of_rank : (w : Whole) (rank : ℕ) (o : Option Contract) → w.invariants ≡ [] → (frame_by w rank o).invariants ≡ []
of_rank w rank None none = none
of_rank w rank (Some x) none = none

of_name : (w : Whole) (f : FrameName) → w.invariants ≡ [] → (frame_named w f).invariants ≡ []
of_name w EntryFrame none = none
of_name w (ContractFrame a) none = of_rank w (rank_at w.contracts a) (slice_get w.contracts (rank_at w.contracts a)) none

module _ (layout : Layout) (known kept heads one other : ℕ → Bool) (none : (a : ℕ) → heads a ≡ false) where
  abbrev by_one : Checks
  by_one = record { known = known; kept = kept; heads = heads; returns = one }

  abbrev by_other : Checks
  by_other = record { known = known; kept = kept; heads = heads; returns = other }

  same_mark : (n : FramedEnding) (line : ℕ) (m : Mark) (rest : List (List ℕ)) (t : Told) →
      told_mark layout by_one n line m rest t ≡ told_mark layout by_other n line m rest t
  same_mark n line m rest (StateRefused k f) = refl
  same_mark n line (StackMark a) rest (StateIs t) = refl
  same_mark n line (HeadMark a) rest (StateIs t) =
      let away : (is_none t.start.choices && heads a) ≡ false = ap (λ b. is_none t.start.choices && b) (none a) ∙ and_false (is_none t.start.choices) in
      ap (λ b. if b then told_head layout by_one n t.start a line (stack_of layout rest) else FramedRefused line HeadFault) away
      ∙ sym (ap (λ b. if b then told_head layout by_other n t.start a line (stack_of layout rest) else FramedRefused line HeadFault) away)

  same_behind : (o : Option FramedEnding) (p : Part) → told_behind layout by_one o p ≡ told_behind layout by_other o p
  same_behind None p = refl
  same_behind (Some n) p = by_mark p.behind
    where
      by_mark : (m : Option (Mark × List (List ℕ))) → told_parts layout by_one n p.lines m ≡ told_parts layout by_other n p.lines m
      by_mark None = refl
      by_mark (Some m) =
          same_mark n (length p.lines + 2) m.0 m.1 (told_of layout known (closed (entry_part layout p.lines)))

  same_before : (ls : List (List ℕ)) → told_before layout by_one ls ≡ told_before layout by_other ls
  same_before ls = same_behind (Some some_framed) (part_of layout ls)

module _ (w : Whole) (none : w.invariants ≡ []) (layout : Layout) (one other : ℕ → Bool) where
  same_frame : (f : FrameName) (ls : List (List ℕ)) →
      told_before layout ((call_checks w one).frames f) ls ≡ told_before layout ((call_checks w other).frames f) ls
  same_frame f ls =
      same_before layout (is_known_at (frame_named w f).program) (is_kept_at w.program) (is_head (frame_named w f)) one other
      (λ a. no_head (frame_named w f) a (of_name w f none)) ls

  same_body : (n : CallEnding) (before blocks : List (List ℕ)) →
      told_body layout (call_checks w one) n before blocks ≡ told_body layout (call_checks w other) n before blocks
  same_body n before [] = ap (λ t. told_by_both n t (BlocksAre [] [] [])) (same_frame (frame_name n) before)
  same_body n before (call ∷ rest) =
      ap (λ t. told_by_both n t (blocks_told layout (changes_of w) (InBlocks 0 [] 0) (length before + 2) (call ∷ rest)))
      (same_frame (frame_name n) (before ++ codes "end" ∷ []))

  same_after : (o : Option CallEnding) (b : Body) → told_after layout (call_checks w one) o b ≡ told_after layout (call_checks w other) o b
  same_after None b = refl
  same_after (Some n) b = same_body n b.lines b.blocks

  same_told : (text : List ℕ) → call_text_of layout (call_checks w one) text ≡ call_text_of layout (call_checks w other) text
  unfolding call_text_of
  same_told text = by_lines (split_lines text)
    where
      by_lines : (ls : List (List ℕ)) → call_told layout (call_checks w one) ls ≡ call_told layout (call_checks w other) ls
      by_lines [] = refl
      by_lines (first ∷ rest) = same_after (call_ending_of layout (changes_of w) first) (body_of rest)

pub no_returns_in_calls : (w : Whole) → w.invariants ≡ [] → (one other : ℕ → Bool) (layout : Layout) (text : List ℕ) →
    call_replay_answer w one layout text ≡ call_replay_answer w other layout text
no_returns_in_calls w none one other layout text = by_large (nat_lt text_limit (length text))
  where
    by_large : (b : Bool) → call_sized_answer b w one layout text ≡ call_sized_answer b w other layout text
    by_large true = refl
    by_large false = ap (call_told_answer w layout) (same_told w none layout one other text)
