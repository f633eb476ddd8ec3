-- A printed text with blocks is read back as the same state.
use Rattle.std.proofs.Common.{◌≡◌, ℕ, ◌+◌, ◌-◌, ◌^◌, ◌<◌, ◌≤◌, refl, ap, sym, ◌∙◌, subst, arith, Bool, List, [], ◌∷◌, ◌++◌, Option, Some, None, length, length-append, map, append_assoc}
use Rattle.std.specs.Prelude.{All, AllPairs, codes, if◌then◌else◌}
use Rattle.std.specs.Option.{option_map}
use Rattle.std.proofs.lemmas.List.{map-append, take_at}
use Rattle.word_spec.specs.State.{Written}
use Rattle.word_spec.specs.Texts.{word_text, number_text, joined, words_in}
use Rattle.machine_spec.specs.Endings.{AssertFails, FetchFails, NoRow, HalfwordFails, CodeWritten, Trapped, AlignFails, JumpFails, EnsureFails, place_words}
use Rattle.machine_spec.specs.StateText.{Layout, StateLine, ByteLine, ChoiceLine, EndLine, MachineLine, IsWritten, last_step, lines_behind, line_of, line_of_words, place_in, rv_layout, arm_layout, value_names, words_of_line}
use Rattle.machine_spec.proofs.Spelling.{Above, AllAbove, words_in_joined, joined_above, number_above, hex_back, hex_word_above}
use Rattle.machine_spec.proofs.StateLines.{IsLayout, arm_is_layout, rv_is_layout}
use Rattle.frame_spec.specs.Frames.{FrameEvent, OfStep, InvariantFails, NeedsFails, WritesFails, GivesFails, ModifiesFails}
use Rattle.frame_spec.specs.FrameReports.{WrittenCall, WrittenHead}
use Rattle.frame_texts_spec.specs.FrameTexts.{Checks, FramedEnding, FramedFails, FramedTurns, FramedIs, IsFrameEvent, IsHeadPart, content_lines, ending_words, entry_part, frame_event_words, head_part, first_of, head_line, last_lines, line_texts, lines_of_parts, named_in, new_ending, framed, stack_line, some_ending}
use Rattle.frame_texts_spec.specs.CallTexts.{BlocksAre, CallChecks, CallEnding, CallIs, CallText, ContractFrame, EntryFrame, FrameName, InBlocks, IsBlock, IsCallEnding, IsCallText, IsFrameName, Plain, UnprovedBy, UnprovedTurns, after_frame, blocks, blocks_told, body_from, body_of, but_last, call_ending_of, call_ending_words, call_in, call_line, call_of, call_printed, call_text_lines, call_text_of, call_told, changes_or_none, contract_name, frame_in, frame_name, name_word, some_framed, told_after, told_before, told_by_both, unproved, unproved_by, unproved_ending, value_lines, values_of, places}
use Rattle.frame_texts_spec.specs.CallTextLaws.{BeginsNoBlock, PrintedBlocksAreReadBack}
use Rattle.frame_texts_spec.proofs.Blockless.{whole_body}
use Rattle.frame_texts_spec.proofs.BlocksBack.{blocks_back, blocks_feeds, call_back, start_is_no_call}
use Rattle.frame_texts_spec.proofs.EndingsBack.{HasMarks, at_most_back, ending_back, ending_line_above, event_above, no_register, place_above, place_back, plain_above}
use Rattle.frame_texts_spec.proofs.PartsBack.{AllNoFeed, AllSaid, arm_marks, behind_is, content_is, head_start_told, start_told, told_said, feeds-append, feeds_before, lines_split, no_feed, parts_back, parts_feeds, rv_marks}

-- ---- endings

-- an event, or a number of backward transfers, after the frame
event_back : (e : FrameEvent) (at step : ℕ) → IsFrameEvent e × (at < 2 ^ 32) × (step ≤ last_step) →
    after_frame (frame_event_words e ++ place_words at step) ≡ Some (FramedFails e at step)
event_back (OfStep (AssertFails m)) at step b = rw (at_most_back (2 ^ 64 - 1) m (omega (arith, b.0)) (omega arith), place_back at step b.1 b.2) refl
event_back (OfStep FetchFails) at step b = rw (place_back at step b.1 b.2) refl
event_back (OfStep NoRow) at step b = rw (place_back at step b.1 b.2) refl
event_back (OfStep HalfwordFails) at step b = rw (place_back at step b.1 b.2) refl
event_back (OfStep CodeWritten) at step b = rw (place_back at step b.1 b.2) refl
event_back (OfStep Trapped) at step b = rw (place_back at step b.1 b.2) refl
event_back (OfStep AlignFails) at step b = rw (place_back at step b.1 b.2) refl
event_back (OfStep JumpFails) at step b = rw (place_back at step b.1 b.2) refl
event_back (OfStep (EnsureFails m)) at step b = rw (at_most_back (2 ^ 64 - 1) m (omega (arith, b.0)) (omega arith), place_back at step b.1 b.2) refl
event_back (InvariantFails m) at step b = rw (at_most_back (2 ^ 64 - 1) m (omega (arith, b.0)) (omega arith), place_back at step b.1 b.2) refl
event_back (NeedsFails m) at step b = rw (at_most_back (2 ^ 64 - 1) m (omega (arith, b.0)) (omega arith), place_back at step b.1 b.2) refl
event_back WritesFails at step b = rw (place_back at step b.1 b.2) refl
event_back (GivesFails m) at step b = rw (at_most_back (2 ^ 64 - 1) m (omega (arith, b.0)) (omega arith), place_back at step b.1 b.2) refl
event_back ModifiesFails at step b = rw (place_back at step b.1 b.2) refl

turns_back : (k at step : ℕ) → (k ≤ 4096) × (at < 2 ^ 32) × (step ≤ last_step) →
    after_frame (codes "unroll" ∷ number_text k ∷ place_words at step) ≡ Some (FramedTurns k at step)
turns_back k at step b =
    rw (at_most_back (2 ^ 64 - 1) k (omega (arith, b.0)) (omega arith), at_most_back 4096 k b.0 (omega arith), place_back at step b.1 b.2) refl

frame_back : (c : CallChecks) (f : FrameName) → IsFrameName c f → frame_in c.changes (name_word f) ≡ Some f
frame_back c EntryFrame named = refl
frame_back c (ContractFrame a) named =
    ap (contract_name c.changes) (hex_back 8 a named.0) ∙ ap (λ t. if t then Some (ContractFrame a) else None) named.1

frame_above : (f : FrameName) → Above 32 (name_word f)
frame_above EntryFrame = plain_above (codes "entry") refl
frame_above (ContractFrame a) = hex_word_above 8 a

module _ (layout : Layout) (good : IsLayout layout) (c : CallChecks) where
  -- an ending that only notes with contracts have
  unproved_back : (f : FrameName) (w : List ℕ) (ws : List (List ℕ)) (n : FramedEnding) → IsFrameName c f →
      AllAbove 32 (codes "unproved" ∷ name_word f ∷ w ∷ ws) → after_frame (w ∷ ws) ≡ Some n →
      call_ending_of layout c.changes (joined (codes "unproved" ∷ name_word f ∷ w ∷ ws)) ≡ Some (unproved f n)
  unproved_back f w ws n named above e =
      ap said (words_in_joined (codes "unproved") (name_word f ∷ w ∷ ws) above)
      ∙ ap (λ (o : Option StateLine). first_of (option_map Plain (first_of (option_map framed (named_in o)) None))
      (unproved_by (frame_in c.changes (name_word f)) (after_frame (w ∷ ws))))
      (no_register layout (place_in (value_names layout) (codes "unproved")) (name_word f) w ws)
      ∙ ap (λ o. unproved_by o (after_frame (w ∷ ws))) (frame_back c f named) ∙ ap (unproved_by (Some f)) e
    where
      said : List (List ℕ) → Option CallEnding
      said us = first_of (option_map Plain (first_of (option_map framed (named_in (line_of_words layout us))) (new_ending us))) (unproved_ending c.changes us)

  pub call_ending_back : (n : CallEnding) → IsCallEnding c n → call_ending_of layout c.changes (joined (call_ending_words n)) ≡ Some n
  call_ending_back (Plain n) b =
      ap (λ o. first_of (option_map Plain o) (unproved_ending c.changes (words_in (joined (ending_words n))))) (ending_back layout good n b)
  call_ending_back (UnprovedBy f e at step) b =
      by_words (frame_event_words e)
      (plain_above (codes "unproved") refl, (frame_above f, event_above e (place_words at step) b.1 (place_above at step b.3)))
      (event_back e at step (b.1, b.2, b.3))
    where
      by_words : (us : List (List ℕ)) → AllAbove 32 (codes "unproved" ∷ name_word f ∷ us ++ place_words at step) →
          after_frame (us ++ place_words at step) ≡ Some (FramedFails e at step) →
          call_ending_of layout c.changes (joined (codes "unproved" ∷ name_word f ∷ us ++ place_words at step)) ≡ Some (UnprovedBy f e at step)
      by_words [] above e' =
          unproved_back f (codes "at") (word_text at ∷ codes "step" ∷ number_text step ∷ []) (FramedFails e at step) b.0 above e'
      by_words (u ∷ us) above e' = unproved_back f u (us ++ place_words at step) (FramedFails e at step) b.0 above e'
  call_ending_back (UnprovedTurns f k at step) b =
      unproved_back f (codes "unroll") (number_text k ∷ place_words at step) (FramedTurns k at step) b.0
      (plain_above (codes "unproved") refl, (frame_above f, (plain_above (codes "unroll") refl, (number_above k (omega (arith, b.1)), place_above at step b.3))))
      (turns_back k at step (b.1, b.2, b.3))

-- the first line has no line feed
call_ending_above : (c : CallChecks) (n : CallEnding) → IsCallEnding c n → Above 31 (joined (call_ending_words n))
call_ending_above c (Plain n) b = ending_line_above n b
call_ending_above c (UnprovedBy f e at step) b =
    joined_above (codes "unproved") (name_word f ∷ frame_event_words e ++ place_words at step)
    (plain_above (codes "unproved") refl, (frame_above f, event_above e (place_words at step) b.1 (place_above at step b.3)))
call_ending_above c (UnprovedTurns f k at step) b =
    joined_above (codes "unproved") (name_word f ∷ codes "unroll" ∷ number_text k ∷ place_words at step) (
      plain_above (codes "unproved") refl,
      (frame_above f, (plain_above (codes "unroll") refl, (number_above k (omega (arith, b.1)), place_above at step b.3))),
    )

-- ---- lines before the blocks

-- lines that say something begin no block
said_begins_none : (layout : Layout) (texts : List (List ℕ)) → AllSaid (map (line_of layout) texts) → BeginsNoBlock texts
said_begins_none layout [] said = tt
said_begins_none layout (text ∷ rest) said = by_line (line_of layout text) refl said (said_begins_none layout rest)
  where
    by_line : (o : Option StateLine) → line_of layout text ≡ o → AllSaid (o ∷ map (line_of layout) rest) →
        (AllSaid (map (line_of layout) rest) → BeginsNoBlock rest) → BeginsNoBlock (text ∷ rest)
    by_line None e said others = absurd said
    by_line (Some l) e said others = (start_is_no_call layout text l e, others said)

none-append : (ls ms : List (List ℕ)) → BeginsNoBlock ls → BeginsNoBlock ms → BeginsNoBlock (ls ++ ms)
none-append [] ms p q = q
none-append (l ∷ ls) ms p q = (p.0, none-append ls ms p.1 q)

none_before : (ls ms : List (List ℕ)) → BeginsNoBlock (ls ++ ms) → BeginsNoBlock ls
none_before [] ms p = tt
none_before (l ∷ ls) ms p = (p.0, none_before ls ms p.1)

head_begins_none : (a : ℕ) → call_of (head_line a) ≡ None
head_begins_none a = ap call_in (words_in_joined (codes "head") (word_text a ∷ []) (plain_above (codes "head") refl, (hex_word_above 8 a, tt)))

stack_begins_none : (stack : List ℕ) → BeginsNoBlock (map stack_line stack)
stack_begins_none [] = tt
stack_begins_none (a ∷ stack) = (
  ap call_in (words_in_joined (codes "stack") (word_text a ∷ []) (plain_above (codes "stack") refl, (hex_word_above 8 a, tt))),
  stack_begins_none stack,
)

-- lines of a start end in the end
module _ (layout : Layout) where
  abbrev text_of : StateLine → List ℕ
  text_of l = joined (words_of_line layout l)

  ended : (ls : List StateLine) → line_texts layout (ls ++ EndLine ∷ []) ≡ line_texts layout ls ++ codes "end" ∷ []
  ended ls = map-append text_of ls (EndLine ∷ [])

  -- the lines of parts, without the end
  abbrev start_lines : Written → List StateLine
  start_lines w = MachineLine ∷ content_lines layout w ++ map (λ c. ChoiceLine c.0 c.1) w.choices

  abbrev pub before_end : Written → Option WrittenHead → List (List ℕ)
  before_end w None = line_texts layout (start_lines w)
  before_end w (Some h) =
      line_texts layout (MachineLine ∷ content_lines layout w)
      ++ (head_line h.at ∷ map stack_line h.stack ++ line_texts layout (content_lines layout h.start ++ map (λ c. ChoiceLine c.0 c.1) h.start.choices))

  choices_end : (w : Written) → content_lines layout w ++ last_lines w ≡ (content_lines layout w ++ map (λ c. ChoiceLine c.0 c.1) w.choices) ++ EndLine ∷ []
  choices_end w = sym (append_assoc (content_lines layout w) (map (λ c. ChoiceLine c.0 c.1) w.choices) (EndLine ∷ []))

  pub parts_end : (w : Written) (h : Option WrittenHead) → lines_of_parts layout w h ≡ before_end w h ++ codes "end" ∷ []
  parts_end w None =
      ap (line_texts layout) (behind_is layout w) ∙ ap (λ (ls : List StateLine). text_of MachineLine ∷ line_texts layout ls) (choices_end w)
      ∙ ap (λ (ls : List (List ℕ)). text_of MachineLine ∷ ls) (ended (content_lines layout w ++ map (λ c. ChoiceLine c.0 c.1) w.choices))
  parts_end w (Some h) =
      let entry = line_texts layout (MachineLine ∷ content_lines layout w) in
      let stack = map stack_line h.stack in
      let lines = content_lines layout h.start ++ map (λ c. ChoiceLine c.0 c.1) h.start.choices in
      ap (λ (ls : List StateLine). entry ++ (head_line h.at ∷ stack ++ line_texts layout ls)) (choices_end h.start)
      ∙ ap (λ (ls : List (List ℕ)). entry ++ (head_line h.at ∷ stack ++ ls)) (ended lines)
      ∙ ap (λ (ls : List (List ℕ)). entry ++ (head_line h.at ∷ ls)) (sym (append_assoc stack (line_texts layout lines) (codes "end" ∷ [])))
      ∙ sym (append_assoc entry (head_line h.at ∷ stack ++ line_texts layout lines) (codes "end" ∷ []))

pub but_last_is : (ls : List (List ℕ)) (e : List ℕ) → but_last (ls ++ e ∷ []) ≡ ls
but_last_is ls e =
    let count : length ls ≡ length (ls ++ e ∷ []) - 1 = omega (arith, length-append ls (e ∷ [])) in
    take_at ls (e ∷ []) (length (ls ++ e ∷ []) - 1) count

-- a body whose blocks begin here
body_then : (ls : List (List ℕ)) (text : List ℕ) (rest : List (List ℕ)) (x : ℕ × ℕ) → BeginsNoBlock ls → call_of text ≡ Some x →
    body_of (ls ++ text ∷ rest) ≡ record { lines = ls; blocks = text ∷ rest }
body_then [] text rest x none e = ap (λ o. body_from text o rest (body_of rest)) e
body_then (l ∷ ls) text rest x none e =
    ap (λ o. body_from l o (ls ++ text ∷ rest) (body_of (ls ++ text ∷ rest))) none.0
    ∙ ap (body_from l None (ls ++ text ∷ rest)) (body_then ls text rest x none.1 e)

module _ (layout : Layout) (good : IsLayout layout) (marks : HasMarks layout) (checks : CallChecks) where
  start_begins_none : (known : ℕ → Bool) (w : Written) → IsWritten layout known w → BeginsNoBlock (line_texts layout (lines_behind layout w))
  start_begins_none known w written =
      said_begins_none layout (line_texts layout (lines_behind layout w))
      (told_said layout known (entry_part layout (line_texts layout (lines_behind layout w))) (record { named = some_ending; start = w })
      (start_told layout good known w written))

  parts_begin_none : (c : Checks) (w : Written) → IsWritten layout c.known w → (h : Option WrittenHead) → IsHeadPart layout c w h →
      BeginsNoBlock (lines_of_parts layout w h)
  parts_begin_none c w written None part = start_begins_none c.known w written
  parts_begin_none c w written (Some h) part =
      let entry = line_texts layout (MachineLine ∷ content_lines layout w) in
      let behind = line_texts layout (content_lines layout h.start ++ last_lines h.start) in
      none-append entry (head_line h.at ∷ map stack_line h.stack ++ behind)
      (none_before entry (codes "end" ∷ [])
      (subst BeginsNoBlock (content_is layout good c.known w written part.no_choices) (start_begins_none c.known w written))) (
        head_begins_none h.at,
        none-append (map stack_line h.stack) behind (stack_begins_none h.stack)
            (said_begins_none layout behind
            (told_said layout c.kept (head_part layout behind) (record { named = some_ending; start = h.start })
            (head_start_told layout good c.kept h.start part.start))),
      )

  module _ (t : CallText) (p : IsCallText layout checks t) where
    abbrev c : Checks
    c = checks.frames (frame_name t.named)

    abbrev before : List (List ℕ)
    before = before_end layout t.start t.head

    abbrev parts : List (List ℕ)
    parts = lines_of_parts layout t.start t.head

    abbrev behind : List WrittenCall → List (List ℕ)
    behind calls = blocks layout checks.changes calls ++ codes "end" ∷ []

    ends : parts ≡ before ++ codes "end" ∷ []
    ends = parts_end layout t.start t.head

    body_is : but_last parts ≡ before
    body_is = ap but_last ends ∙ but_last_is before (codes "end")

    none : BeginsNoBlock before
    none = none_before before (codes "end" ∷ []) (subst BeginsNoBlock ends (parts_begin_none c t.start p.start t.head p.head))

    before_back : told_before layout c (before ++ codes "end" ∷ []) ≡ FramedIs (record { named = some_framed; start = t.start; head = t.head })
    before_back = ap (told_before layout c) (sym ends) ∙ parts_back layout good marks c some_framed t.start p.start t.head p.head

    abbrev text_with : List WrittenCall → CallText
    text_with calls = record { named = t.named; start = t.start; head = t.head; calls = calls }

    body_back : (calls : List WrittenCall) → All (IsBlock layout checks) calls → AllPairs (λ x y. x.step < y.step) calls →
        told_after layout checks (Some t.named) (body_of (before ++ behind calls)) ≡ CallIs (text_with calls)
    body_back [] all rising =
        ap (told_after layout checks (Some t.named))
        (whole_body (before ++ codes "end" ∷ []) (subst BeginsNoBlock ends (parts_begin_none c t.start p.start t.head p.head)))
        ∙ ap (λ told. told_by_both t.named told (BlocksAre [] [] [])) before_back
    body_back (x ∷ calls) all rising =
        let block = all 0 x (omega arith) in
        let rest = (line_texts layout (value_lines (places layout (changes_or_none (checks.changes x.at))) (values_of (changes_or_none (checks.changes x.at)) x)
        ++ map (λ b. ByteLine b.0 b.1) x.bytes) ++ blocks layout checks.changes calls) ++ codes "end" ∷ [] in
        ap (told_after layout checks (Some t.named))
        (body_then before (call_line x.step x.at) rest (x.step, x.at) none (call_back x.step x.at block.step block.at))
        ∙ ap (λ told. told_by_both t.named told
        (blocks_told layout checks.changes (InBlocks 0 [] 0) (length before + 2) (behind (x ∷ calls)))) before_back
        ∙ ap (told_by_both t.named (FramedIs (record { named = some_framed; start = t.start; head = t.head })))
        (blocks_back layout good checks (x ∷ calls) all rising 0 0 (length before + 2) (λ some d. omega arith))

    feeds : AllNoFeed (call_text_lines layout checks.changes t)
    feeds = (
      no_feed (joined (call_ending_words t.named)) (call_ending_above checks t.named p.named),
      feeds-append (but_last parts) (behind t.calls)
          (subst AllNoFeed (sym body_is)
          (feeds_before before (codes "end" ∷ []) (subst AllNoFeed ends (parts_feeds layout good marks c t.start p.start t.head p.head))))
          (feeds-append (blocks layout checks.changes t.calls) (codes "end" ∷ []) (blocks_feeds layout good checks t.calls p.calls)
          (no_feed (codes "end") (joined_above (codes "end") [] (plain_above (codes "end") refl, tt)), tt)),
    )

    pub text_back : call_text_of layout checks (call_printed layout checks.changes t) ≡ CallIs t
    unfolding call_text_of call_printed
    text_back =
        ap (call_told layout checks) (lines_split (call_text_lines layout checks.changes t) feeds)
        ∙ ap (λ o. told_after layout checks o (body_of (but_last parts ++ behind t.calls))) (call_ending_back layout good checks t.named p.named)
        ∙ ap (λ (ls : List (List ℕ)). told_after layout checks (Some t.named) (body_of (ls ++ behind t.calls))) body_is
        ∙ body_back t.calls p.calls p.calls_rise

pub printed_blocks_are_read_back : PrintedBlocksAreReadBack
printed_blocks_are_read_back = (
  λ compressed c t p. text_back (rv_layout compressed) (rv_is_layout compressed) (rv_marks compressed) c t p,
  λ e profile c t p. text_back (arm_layout e profile) (arm_is_layout e profile) (arm_marks e profile) c t p,
)
