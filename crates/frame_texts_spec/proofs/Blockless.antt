-- A text without blocks says what it says without contracts.
use Rattle.std.proofs.Common.{◌≡◌, ℕ, ◌+◌, refl, ap, sym, ◌∙◌, Bool, true, false, List, [], ◌∷◌, Option, Some, None, length}
use Rattle.std.specs.Prelude.{◌&&◌, if◌then◌else◌}
use Rattle.std.specs.Option.{option_map}
use Rattle.word_spec.specs.State.{Written}
use Rattle.word_spec.specs.Texts.{split_lines}
use Rattle.machine_spec.specs.StateText.{Layout, Told, StateIs, StateRefused, told_of}
use Rattle.frame_texts_spec.specs.FrameTexts.{Checks, FramedEnding, FramedTold, FramedIs, FramedRefused, HeadFault, Mark, HeadMark, StackMark, Part, Stack, bad_return, closed, ending_of, entry_part, first_of, framed_of, framed_told, head_part, head_told, is_none, misplaced, part_of, plain_told, stack_of, told_behind, told_head, told_mark, told_parts, told_registers, told_stack}
use Rattle.frame_texts_spec.specs.CallTexts.{BlocksAre, body_from, body_of, call_ending_of, call_text_of, call_told, CallChecks, CallEnding, EntryFrame, Plain, some_framed, told_after, told_before, told_by_both}
use Rattle.frame_texts_spec.specs.CallTextLaws.{BeginsNoBlock, BlocklessIsFramed, HasNoBlock, IsFramedFirst, without_blocks}

-- what is told, after another ending
abbrev pub renamed : FramedEnding → FramedTold → FramedTold
renamed n (FramedIs t) = FramedIs (record { named = n; start = t.start; head = t.head })
renamed n (FramedRefused k f) = FramedRefused k f

-- which ending lines stand after makes no difference to what else they say
module _ (layout : Layout) (c : Checks) (n m : FramedEnding) where
  plain_alike : (told : Told) → plain_told n told ≡ renamed n (plain_told m told)
  plain_alike (StateIs t) = refl
  plain_alike (StateRefused k f) = refl

  head_alike : (w : Written) (a : ℕ) (stack : List ℕ) (before : ℕ) (told : Told) →
      head_told n w a stack before told ≡ renamed n (head_told m w a stack before told)
  head_alike w a stack before (StateIs t) = refl
  head_alike w a stack before (StateRefused k f) = refl

  misplaced_alike : (before line : ℕ) (told : Told) → misplaced before line told ≡ renamed n (misplaced before line told)
  misplaced_alike before line (StateIs t) = refl
  misplaced_alike before line (StateRefused k f) = refl

  registers_alike : (w : Written) (a : ℕ) (stack : List ℕ) (before : ℕ) (part : List (List ℕ)) (o : Option (Mark × List (List ℕ))) →
      told_registers layout c n w a stack before part o ≡ renamed n (told_registers layout c m w a stack before part o)
  registers_alike w a stack before part None = head_alike w a stack before (told_of layout c.kept (head_part layout part))
  registers_alike w a stack before part (Some x) =
      misplaced_alike before (before + length part + 1) (told_of layout c.kept (closed (head_part layout part)))

  stack_alike : (w : Written) (a line : ℕ) (s : Stack) (o : Option ℕ) →
      told_stack layout c n w a line s o ≡ renamed n (told_stack layout c m w a line s o)
  stack_alike w a line s (Some bad) = refl
  stack_alike w a line s None =
      registers_alike w a s.addresses (line + length s.addresses) (part_of layout s.behind).lines (part_of layout s.behind).behind

  mark_alike : (line : ℕ) (x : Mark) (rest : List (List ℕ)) (told : Told) →
      told_mark layout c n line x rest told ≡ renamed n (told_mark layout c m line x rest told)
  mark_alike line (HeadMark a) rest (StateRefused k f) = refl
  mark_alike line (StackMark a) rest (StateRefused k f) = refl
  mark_alike line (StackMark a) rest (StateIs t) = refl
  mark_alike line (HeadMark a) rest (StateIs t) = by_test (is_none t.start.choices && c.heads a)
    where
      by_test : (b : Bool) → (if b then told_head layout c n t.start a line (stack_of layout rest) else FramedRefused line HeadFault)
          ≡ renamed n (if b then told_head layout c m t.start a line (stack_of layout rest) else FramedRefused line HeadFault)
      by_test true = stack_alike t.start a line (stack_of layout rest) (bad_return c.returns (line + 1) (stack_of layout rest).addresses)
      by_test false = refl

  parts_alike : (part : List (List ℕ)) (o : Option (Mark × List (List ℕ))) →
      told_parts layout c n part o ≡ renamed n (told_parts layout c m part o)
  parts_alike part None = plain_alike (told_of layout c.known (entry_part layout part))
  parts_alike part (Some x) = mark_alike (length part + 2) x.0 x.1 (told_of layout c.known (closed (entry_part layout part)))

  pub behind_alike : (p : Part) → told_behind layout c (Some n) p ≡ renamed n (told_behind layout c (Some m) p)
  behind_alike p = parts_alike p.lines p.behind

-- without blocks
no_calls : (n : FramedEnding) (told : FramedTold) → told_by_both (Plain n) told (BlocksAre [] [] []) ≡ without_blocks (renamed n told)
no_calls n (FramedIs t) = refl
no_calls n (FramedRefused k f) = refl

-- lines of which none begins a block are all before the blocks
pub whole_body : (texts : List (List ℕ)) → BeginsNoBlock texts → body_of texts ≡ record { lines = texts; blocks = [] }
whole_body [] h = refl
whole_body (text ∷ rest) h = ap (λ o. body_from text o rest (body_of rest)) h.0 ∙ ap (body_from text None rest) (whole_body rest h.1)

module _ (layout : Layout) (c : CallChecks) where
  abbrev entry : Checks
  entry = c.frames EntryFrame

  of_ending : (o : Option FramedEnding) (rest : List (List ℕ)) →
      told_after layout c (option_map Plain o) (record { lines = rest; blocks = [] }) ≡ without_blocks (told_behind layout entry o (part_of layout rest))
  of_ending None rest = refl
  of_ending (Some n) rest =
      no_calls n (told_before layout entry rest)
      ∙ ap without_blocks (sym (behind_alike layout entry n some_framed (part_of layout rest)))

  plain_first : (o : Option FramedEnding) → first_of (option_map Plain o) None ≡ option_map Plain o
  plain_first None = refl
  plain_first (Some n) = refl

  of_lines : (texts : List (List ℕ)) → IsFramedFirst c.changes texts → HasNoBlock texts →
      call_told layout c texts ≡ without_blocks (framed_told layout entry texts)
  of_lines [] first none = refl
  of_lines (text ∷ rest) first none =
      ap (told_after layout c (call_ending_of layout c.changes text)) (whole_body rest none)
      ∙ ap (λ (o : Option CallEnding). told_after layout c (first_of (option_map Plain (ending_of layout text)) o) (record { lines = rest; blocks = [] })) first
      ∙ ap (λ (o : Option CallEnding). told_after layout c o (record { lines = rest; blocks = [] })) (plain_first (ending_of layout text))
      ∙ of_ending (ending_of layout text) rest

pub blockless_is_framed : BlocklessIsFramed
unfolding framed_of call_text_of
blockless_is_framed layout c text first none = of_lines layout c (split_lines text) first none
