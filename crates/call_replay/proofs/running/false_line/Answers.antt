use Rattle.std.proofs.Common.{◌≡◌, ◌++◌, ◌∷◌, [], IfOk, ap, codes, sym, subst, ◌∙◌}
use Rattle.word_spec.specs.Texts.{line, number_text, spaced}
use Rattle.bilv_spec.specs.Reports as reports
use Rattle.call_spec.specs.Calls.{plain_answer}
use Rattle.frame_texts_spec.specs.CallReplays.{entry_word}
use Rattle.frame_texts_spec.specs.CallTexts.{FrameName}
use Rattle.frame_texts_spec.specs.FrameTexts.{some_ending}
use Rattle.call_text.specs.Texts.{frame_name_of}
use Rattle.call_replay.proofs.running.false_line.Goals as goal

pub returns-in-Entry : goal.returns-in-Entry
returns-in-Entry c n o named =
    subst (λ (f : FrameName). IfOk c.false_require.result (λ r. plain_answer r.status r.text.items
    ≡ plain_answer 9 (line (codes "state:" ++ spaced (entry_word f ∷ number_text c.args.line ∷ [])))))
    (sym (named ∙ ap frame_name_of c.in-Entry.is)) (c.false_require.ensures some_ending (reports.FoundExit 0 0))
