-- What is printed of a run of the tables has no blocks, and its first line is none that only notes with contracts have.
use Rattle.std.proofs.Common.{◌≡◌, ℕ, refl, ap, sym, ◌∙◌, subst, List, [], ◌∷◌, ◌++◌, Option, Some, None, Bool, map}
use Rattle.std.specs.Prelude.{codes}
use Rattle.word_spec.specs.Texts.{joined, number_text, split_lines, words_in}
use Rattle.machine_spec.specs.Endings.{NamedEnding, FailsBy, UnknownBy, AssertFails, FetchFails, NoRow, HalfwordFails, CodeWritten, Trapped, AlignFails, JumpFails, EnsureFails, event_words, named_words, place_words}
use Rattle.machine_spec.specs.StateText.{Layout, IsNamed, IsWritten, StateIs, StateLine, StateText, line_of, lines_behind, printed, state_of}
use Rattle.machine_spec.proofs.StateLines.{IsLayout}
use Rattle.machine_spec.proofs.StateBack.{printed_back}
use Rattle.machine_spec.proofs.StateRead.{told_is_printed}
use Rattle.machine_spec.proofs.Spelling.{words_in_joined}
use Rattle.frame_spec.specs.Frames.{OfStep}
use Rattle.frame_texts_spec.specs.FrameTexts.{FramedFails, FramedTurns, entry_part, line_texts, some_ending}
use Rattle.frame_texts_spec.specs.CallTexts.{unproved_ending}
use Rattle.frame_texts_spec.specs.CallTextLaws.{BeginsNoBlock, HasNoBlock, IsFramedFirst}
use Rattle.frame_texts_spec.proofs.BlocksBack.{start_is_no_call}
use Rattle.frame_texts_spec.proofs.EndingsBack.{ending_above}
use Rattle.frame_texts_spec.proofs.PartsBack.{AllSaid, start_told, told_said}
use Rattle.answer_spec.specs.FrameAnswerLaws.{HasNoCall}

no_unproved : (n : NamedEnding) → unproved_ending (λ a. None) (named_words n) ≡ None
no_unproved (FailsBy (AssertFails m) at step) = refl
no_unproved (FailsBy FetchFails at step) = refl
no_unproved (FailsBy NoRow at step) = refl
no_unproved (FailsBy HalfwordFails at step) = refl
no_unproved (FailsBy CodeWritten at step) = refl
no_unproved (FailsBy Trapped at step) = refl
no_unproved (FailsBy AlignFails at step) = refl
no_unproved (FailsBy JumpFails at step) = refl
no_unproved (FailsBy (EnsureFails m) at step) = refl
no_unproved (UnknownBy k at step) = refl

same_words : (n : NamedEnding) → IsNamed n → words_in (joined (named_words n)) ≡ named_words n
same_words (FailsBy e at step) b = words_in_joined (codes "fails") (event_words e ++ place_words at step) (ending_above (FramedFails (OfStep e) at step) b)
same_words (UnknownBy k at step) b =
    words_in_joined (codes "unknown") (codes "unroll" ∷ number_text k ∷ place_words at step) (ending_above (FramedTurns k at step) b)

-- lines that say something begin no block
said_begins_none : (layout : Layout) (texts : List (List ℕ)) → AllSaid (map (line_of layout) texts) → BeginsNoBlock texts
said_begins_none layout [] said = tt
said_begins_none layout (text ∷ rest) said = by_line (line_of layout text) refl said (said_begins_none layout rest)
  where
    by_line : (o : Option StateLine) → line_of layout text ≡ o → AllSaid (o ∷ map (line_of layout) rest) →
        (AllSaid (map (line_of layout) rest) → BeginsNoBlock rest) → BeginsNoBlock (text ∷ rest)
    by_line None e said others = absurd said
    by_line (Some l) e said others = (start_is_no_call layout text l e, others said)

-- so in a layout
abbrev pub HasNoCallIn : Layout → Type 0
HasNoCallIn layout = (known : ℕ → Bool) (t : StateText) → IsNamed t.named → IsWritten layout known t.start → HasNoCall (split_lines (printed layout t))

pub callless_in : (layout : Layout) → IsLayout layout → HasNoCallIn layout
callless_in layout good known t named written =
    let back : state_of layout known (printed layout t) ≡ StateIs t = printed_back layout good known t written named in
    let split = (told_is_printed layout known (printed layout t) t back).2 in
    let behind = line_texts layout (lines_behind layout t.start) in (
      subst (IsFramedFirst (λ a. None)) (sym split) (ap (unproved_ending (λ a. None)) (same_words t.named named) ∙ no_unproved t.named),
      subst HasNoBlock (sym split)
          (said_begins_none layout behind
          (told_said layout known (entry_part layout behind) (record { named = some_ending; start = t.start }) (start_told layout good known t.start written))),
    )
