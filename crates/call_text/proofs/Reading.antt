-- What a text with blocks says, by what is said before them and by them.
use Rattle.std.proofs.Common.{◌≡◌, ℕ, ◌+◌, ◌<◌, refl, ap, sym, ◌∙◌, arith, Bool, true, false, List, [], ◌∷◌, Option, Some, None, length, is_some, IfSome}
use Rattle.std.specs.Prelude.{Result, Ok, Err, IfErr, IfOk, ◌==◌, if◌then◌else◌}
use Rattle.std.specs.Borrow.{Bor}
use Rattle.std.specs.Option.{option_map}
use Rattle.word_spec.specs.Texts.{in_front, split_lines}
use Rattle.machine_spec.specs.StateText.{Layout, StateByteFault, StateRegisterFault, lines_of_head, value_names}
use Rattle.frame_spec.specs.FrameReports.{WrittenCall}
use Rattle.frame_texts_spec.specs.FrameTexts.{Checks, FrameFault, FramedText, FramedTold, FramedIs, FramedRefused, HeadFault, OfPart, bad_return, no_checks}
use Rattle.frame_texts_spec.specs.CallTexts as texts
use Rattle.frame_texts_spec.specs.CallTexts.{BlocksAre, BlocksRefused, BlocksTold, Body, CallChecks, CallEnding, CallIs, CallRefused, CallText, CallTextFault, CallTold, Changes, InBlocks, blocks_told, body_of, call_ending_of, call_text_of, call_told, frame_name, told_after, told_before, told_body, told_by_both}
use Rattle.state_text.proofs.Keeping.{no_text}
use Rattle.frame_text.specs.Readings.{JudgedHead, framed_but, judged_head, known_but, line_of_mark, lines_of_begin, seen_head, stack_but}
use Rattle.frame_text.proofs.Tests.{untested}
use Rattle.call_text.specs.Blocks.{call_fault_of, whole_told}
use Rattle.call_text.specs.Lines.{blocks_said, ended}
use Rattle.call_text.specs.Readings.{IsCallRefused, IsCalledAs, IsCalledRefused, called_but, passed, unless_framed}
use Rattle.call_text.specs.Texts.{called_text_of}
use Rattle.call_text.specs.declared.text.CalledText.{CalledText}
use Rattle.call_text.specs.declared.fault.CalledFault.{CalledFault}
use Rattle.call_text.specs.declared.fault.CalledFault.TheVariants.{Refused, Memory}

-- tests before the blocks
module _ (n : CallEnding) (blocks : BlocksTold) where
  -- this is told after lines that these tests pass
  abbrev Told : (told tests : FramedTold) → CallTold → Type 0
  Told told tests all = told_by_both n told blocks ≡ unless_framed tests all

  known_told : (known : ℕ → Bool) (k : ℕ) (bytes : List (ℕ × ℕ)) (told tests : FramedTold) (all : CallTold) → Told told tests all →
      Told (known_but known k bytes told) (known_but known k bytes tests) all
  known_told known k [] told tests all e = e
  known_told known k (b ∷ bytes) told tests all e = by_test (known b.0) (known_told known (k + 1) bytes told tests all e)
    where
      by_test : (t : Bool) → Told (known_but known (k + 1) bytes told) (known_but known (k + 1) bytes tests) all →
          Told (if t then FramedRefused k (OfPart StateByteFault) else known_but known (k + 1) bytes told)
          (if t then FramedRefused k (OfPart StateByteFault) else known_but known (k + 1) bytes tests) all
      by_test true later = refl
      by_test false later = later

  stack_told : (o : Option ℕ) (told tests : FramedTold) (all : CallTold) → Told told tests all → Told (stack_but o told) (stack_but o tests) all
  stack_told None told tests all e = e
  stack_told (Some bad) told tests all e = refl

  head_told : (t : Bool) (line : ℕ) (told tests : FramedTold) (all : CallTold) → Told told tests all →
      Told (if t then told else FramedRefused line HeadFault) (if t then tests else FramedRefused line HeadFault) all
  head_told true line told tests all e = e
  head_told false line told tests all e = refl

  pub tests_told : (layout : Layout) (c : Checks) (bytes : List (ℕ × ℕ)) (h : Option JudgedHead) (told : FramedTold) →
      told_by_both n (framed_but layout c bytes h told) blocks ≡ called_but layout c bytes h (told_by_both n told blocks)
  tests_told layout c bytes None told = known_told c.known (lines_of_head layout + 1) bytes told passed (told_by_both n told blocks) refl
  tests_told layout c bytes (Some h) told =
      known_told c.known (lines_of_head layout + 1) bytes (if c.heads h.at then behind told else misplaced)
      (if c.heads h.at then behind passed else misplaced) all
      (head_told (c.heads h.at) (line_of_mark layout bytes) (behind told) (behind passed) all
      (stack_told stack (kept told) (kept passed) all (known_told c.kept line h.bytes told passed all refl)))
    where
      all : CallTold
      all = told_by_both n told blocks

      misplaced : FramedTold
      misplaced = FramedRefused (line_of_mark layout bytes) HeadFault

      stack : Option ℕ
      stack = bad_return c.returns (line_of_mark layout bytes + 1) h.stack

      line : ℕ
      line = lines_of_begin layout bytes h.stack + length (value_names layout) + 1

      kept : FramedTold → FramedTold
      kept told = known_but c.kept line h.bytes told

      behind : FramedTold → FramedTold
      behind told = stack_but stack (kept told)

module _ (layout : Layout) (frames : texts.FrameName → Checks) (n : CallEnding) (told : FramedTold) where
  abbrev c : Checks
  c = frames (frame_name n)

  -- refused before the blocks
  pub refused_before : (blocks : BlocksTold) (frame : texts.FrameName) (bytes : List (ℕ × ℕ)) (h : Option JudgedHead) (line : ℕ) (f : FrameFault) →
      frame ≡ frame_name n → told ≡ framed_but layout c bytes h (FramedRefused line f) →
      told_by_both n told blocks ≡ called_but layout (frames frame) bytes h (CallRefused line (texts.OfFramed f))
  refused_before blocks frame bytes h line f same e =
      ap (λ t. told_by_both n t blocks) e ∙ tests_told n blocks layout c bytes h (FramedRefused line f)
      ∙ ap (λ x. called_but layout (frames x) bytes h (CallRefused line (texts.OfFramed f))) (sym same)

  module _ (t : FramedText) (e : told ≡ framed_but layout c t.start.bytes (option_map judged_head t.head) (FramedIs t)) where
    by_blocks : (blocks : BlocksTold) →
        told_by_both n told blocks ≡ called_but layout c t.start.bytes (option_map judged_head t.head) (told_by_both n (FramedIs t) blocks)
    by_blocks blocks =
        ap (λ t. told_by_both n t blocks) e ∙ tests_told n blocks layout c t.start.bytes (option_map judged_head t.head) (FramedIs t)

    -- read
    pub all_read : (calls : List WrittenCall) → told_by_both n told (BlocksAre [] [] calls)
        ≡ called_but layout c t.start.bytes (option_map judged_head t.head) (CallIs (record { named = n; start = t.start; head = t.head; calls = calls }))
    all_read calls = by_blocks (BlocksAre [] [] calls)

    -- refused in the blocks
    pub refused_in_blocks : (blocks : BlocksTold) (frame : texts.FrameName) (bytes : List (ℕ × ℕ)) (h : Option JudgedHead) (line : ℕ) (f : CallTextFault) →
        frame ≡ frame_name n → blocks ≡ BlocksRefused line f → bytes ≡ t.start.bytes → h ≡ option_map judged_head t.head →
        told_by_both n told blocks ≡ called_but layout (frames frame) bytes h (CallRefused line f)
    refused_in_blocks blocks frame bytes h line f same refused first head =
        ap (told_by_both n told) refused ∙ by_blocks (BlocksRefused line f)
        ∙ ap (λ b. called_but layout c b (option_map judged_head t.head) (CallRefused line f)) (sym first)
        ∙ ap (λ x. called_but layout c bytes x (CallRefused line f)) (sym head)
        ∙ ap (λ x. called_but layout (frames x) bytes h (CallRefused line f)) (sym same)

-- the values and bytes before the first block say nothing
pub whole_both : (n : CallEnding) (told : FramedTold) (blocks : BlocksTold) → told_by_both n told (whole_told [] blocks) ≡ told_by_both n told blocks
whole_both n (FramedRefused k f) blocks = refl
whole_both n (FramedIs t) (BlocksAre values bytes calls) = refl
whole_both n (FramedIs t) (BlocksRefused k f) = refl

-- what is told by the text of the blocks, if there is one
abbrev pub blocks_by : Layout → (ℕ → Option Changes) → (line : ℕ) → Option (Bor (List ℕ)) → BlocksTold
blocks_by layout changes line None = BlocksAre [] [] []
blocks_by layout changes line (Some text) = blocks_told layout changes (InBlocks 0 [] 0) line (split_lines text.now)

-- a text that is not empty has a line
some_line : (text : List ℕ) → 0 < length text → 0 < length (split_lines text)
some_line [] some = absurd (omega (arith, some))
some_line (b ∷ rest) some = by_test (b == 10) (split_lines rest)
  where
    in_line : (ls : List (List ℕ)) → 0 < length (in_front b ls)
    in_line [] = omega arith
    in_line (l ∷ ls) = omega arith

    by_test : (t : Bool) (ls : List (List ℕ)) → 0 < length (if t then [] ∷ ls else in_front b ls)
    by_test true ls = omega arith
    by_test false ls = in_line ls

-- what a body says
pub body_is : (layout : Layout) (c : CallChecks) (n : CallEnding) (b : Body) (count : ℕ) (o : Option (Bor (List ℕ))) → count ≡ length b.lines →
    blocks_said o ≡ b.blocks → IfSome o (λ rest. 0 < length rest.now) →
    told_by_both n (told_before layout (c.frames (frame_name n)) (ended (is_some o) b.lines)) (blocks_by layout c.changes (count + 2) o)
    ≡ told_body layout c n b.lines b.blocks
body_is layout c n b count None is none some = ap (told_body layout c n b.lines) none
body_is layout c n b count (Some text) is same some = by_lines (split_lines text.now) (some_line text.now some) ∙ ap (told_body layout c n b.lines) same
  where
    before : FramedTold
    before = told_before layout (c.frames (frame_name n)) (ended true b.lines)

    by_lines : (ls : List (List ℕ)) → 0 < length ls →
        told_by_both n before (blocks_told layout c.changes (InBlocks 0 [] 0) (count + 2) ls) ≡ told_body layout c n b.lines ls
    by_lines [] some = absurd (omega (arith, some))
    by_lines (l ∷ ls) some = ap (λ k. told_by_both n before (blocks_told layout c.changes (InBlocks 0 [] 0) (k + 2) (l ∷ ls))) is

-- an empty text
pub called_empty : (layout : Layout) (c : CallChecks) (text : List ℕ) → length text ≡ 0 →
    call_text_of layout c text ≡ CallRefused 1 (texts.OfFramed (OfPart StateRegisterFault))
unfolding call_text_of
called_empty layout c text e = ap (λ t. call_told layout c (split_lines t)) (no_text text e)

-- a text by its first line
pub called_first : (layout : Layout) (c : CallChecks) (text first rest : List ℕ) (o : Option CallEnding) → split_lines text ≡ first ∷ split_lines rest →
    o ≡ call_ending_of layout c.changes first → told_after layout c o (body_of (split_lines rest)) ≡ call_text_of layout c text
unfolding call_text_of
called_first layout c text first rest o e is =
    ap (λ n. told_after layout c n (body_of (split_lines rest))) is ∙ sym (ap (call_told layout c) e)

-- the same told
pub refused_same : (layout : Layout) (frames : texts.FrameName → Checks) (a b : CallTold) (fault : CalledFault) → a ≡ b →
    IsCalledRefused layout frames b fault → IsCalledRefused layout frames a fault
refused_same layout frames a b (Refused line kind frame seen) e h = e ∙ h
refused_same layout frames a b Memory e h = tt

-- a reader without tests
no_tests : (layout : Layout) (bytes : List (ℕ × ℕ)) (h : Option JudgedHead) (told : CallTold) → called_but layout no_checks bytes h told ≡ told
no_tests layout bytes h told = ap (λ t. unless_framed t told) (untested layout bytes h passed)

untold : (layout : Layout) (told : CallTold) (t : CalledText) → IsCalledAs layout (λ f. no_checks) told t → told ≡ CallIs (called_text_of t)
untold layout told t e =
    e ∙ no_tests layout (called_text_of t).start.bytes (option_map judged_head (called_text_of t).head) (CallIs (called_text_of t))

pub unrefused : (layout : Layout) (told : CallTold) (fault : CalledFault) → IsCalledRefused layout (λ f. no_checks) told fault → IsCallRefused told fault
unrefused layout told (Refused line kind frame seen) e =
    e ∙ no_tests layout seen.bytes.items (option_map seen_head seen.head) (CallRefused line (call_fault_of kind))
unrefused layout told Memory e = tt

pub all_untold : (layout : Layout) (told : CallTold) (r : Result CalledText CalledFault) → IfOk r (IsCalledAs layout (λ f. no_checks) told) →
    IfOk r (λ t. told ≡ CallIs (called_text_of t))
all_untold layout told (Ok t) h = untold layout told t h
all_untold layout told (Err fault) h = tt

pub all_unrefused : (layout : Layout) (told : CallTold) (r : Result CalledText CalledFault) → IfErr r (IsCalledRefused layout (λ f. no_checks) told) →
    IfErr r (IsCallRefused told)
all_unrefused layout told (Ok t) h = tt
all_unrefused layout told (Err fault) h = unrefused layout told fault h
