-- What is printed of a run of the tables has no head part, and its first line is one of such runs.
use Rattle.std.proofs.Common.{◌≡◌, ◌-◌, ◌^◌, refl, ap, sym, ◌∙◌, subst, arith, ◌∷◌, ◌++◌, None}
use Rattle.std.specs.Prelude.{codes}
use Rattle.word_spec.specs.Texts.{joined, number_text, words_in}
use Rattle.machine_spec.specs.Endings.{NamedEnding, FailsBy, UnknownBy, AssertFails, FetchFails, NoRow, HalfwordFails, CodeWritten, Trapped, AlignFails, JumpFails, EnsureFails, event_words, named_words, place_words}
use Rattle.machine_spec.specs.StateText.{Layout, IsNamed, StateIs, arm_layout, printed, rv_layout, state_of}
use Rattle.machine_spec.proofs.StateLines.{IsLayout, arm_is_layout, rv_is_layout}
use Rattle.frame_spec.specs.Frames.{OfStep}
use Rattle.machine_spec.proofs.StateBack.{printed_back}
use Rattle.machine_spec.proofs.StateRead.{told_is_printed}
use Rattle.machine_spec.proofs.Spelling.{words_in_joined}
use Rattle.frame_texts_spec.specs.FrameTexts.{FramedFails, FramedTurns, new_ending}
use Rattle.frame_texts_spec.specs.FrameTextLaws.{HasNoHeadPart, IsPlainFirst}
use Rattle.frame_texts_spec.specs.ReplayLaws.{IsPlainPrintedIn, PlainPrinted}
use Rattle.frame_texts_spec.proofs.EndingsBack.{at_most_back, ending_above}
use Rattle.frame_texts_spec.proofs.PartsBack.{start_marks}

-- its words are no ending that frames alone have
no_new : (n : NamedEnding) → IsNamed n → new_ending (named_words n) ≡ None
no_new (FailsBy (AssertFails m) at step) b = rw (at_most_back (2 ^ 64 - 1) m (omega (arith, b.0)) (omega arith)) refl
no_new (FailsBy FetchFails at step) b = refl
no_new (FailsBy NoRow at step) b = refl
no_new (FailsBy HalfwordFails at step) b = refl
no_new (FailsBy CodeWritten at step) b = refl
no_new (FailsBy Trapped at step) b = refl
no_new (FailsBy AlignFails at step) b = refl
no_new (FailsBy JumpFails at step) b = refl
no_new (FailsBy (EnsureFails m) at step) b = rw (at_most_back (2 ^ 64 - 1) m (omega (arith, b.0)) (omega arith)) refl
no_new (UnknownBy k at step) b = refl

same_words : (n : NamedEnding) → IsNamed n → words_in (joined (named_words n)) ≡ named_words n
same_words (FailsBy e at step) b = words_in_joined (codes "fails") (event_words e ++ place_words at step) (ending_above (FramedFails (OfStep e) at step) b)
same_words (UnknownBy k at step) b =
    words_in_joined (codes "unknown") (codes "unroll" ∷ number_text k ∷ place_words at step) (ending_above (FramedTurns k at step) b)

plain_in : (layout : Layout) → IsLayout layout → IsPlainPrintedIn layout
plain_in layout good known t named written =
    let back : state_of layout known (printed layout t) ≡ StateIs t = printed_back layout good known t written named in
    let split = (told_is_printed layout known (printed layout t) t back).2 in (
      subst IsPlainFirst (sym split) (ap new_ending (same_words t.named named) ∙ no_new t.named named),
      subst (HasNoHeadPart layout) (sym split) (start_marks layout good known t.start written),
    )

pub plain_printed : PlainPrinted
plain_printed = (λ compressed. plain_in (rv_layout compressed) (rv_is_layout compressed), λ e profile. plain_in (arm_layout e profile) (arm_is_layout e profile))
