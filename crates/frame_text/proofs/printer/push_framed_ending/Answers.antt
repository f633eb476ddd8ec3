use Rattle.std.proofs.Common.{◌≡◌, List, ℕ, ap, sym, ◌∙◌, ◌++◌, codes, subst}
use Rattle.std.specs.Prelude.{OnOk}
use Rattle.word_spec.specs.Texts.{joined, number_text}
use Rattle.machine_spec.specs.Endings.{place_words}
use Rattle.frame_texts_spec.specs.FrameTexts.{ending_words}
use Rattle.state_text.proofs.Appends.{three}
use Rattle.frame_text.specs.Texts.{framed_ending_of, framed_event_of}
use Rattle.frame_text.specs.declared.text.FramedEnding.{FramedEnding}
use Rattle.frame_text.proofs.Pieces.{event_spaced}
use Rattle.frame_text.proofs.printer.push_framed_ending.Goals as goal

pub returns-in_ok-push_step-in-Turns : goal.returns-in_ok-push_step-in-Turns
returns-in_ok-push_step-in-Turns c =
    three c.args.out.now.items c.push_numbered.new.out.items c.push_text.new.out.items c.push_step.new.out.items
    (codes "unknown unroll " ++ number_text c.in-Turns.k) (codes " ") (joined (place_words c.in-Turns.at c.in-Turns.step))
    c.in_ok-push_numbered-in-Turns.ensures c.in_ok-push_text-in-Turns.ensures c.in_ok-push_step-in-Turns.ensures
    ∙ ap (λ (n : FramedEnding). c.args.out.now.items ++ joined (ending_words (framed_ending_of n))) (sym c.in-Turns.is)

pub returns-in-NotInductive : goal.returns-in-NotInductive
returns-in-NotInductive c =
    subst (λ (t : List ℕ). OnOk c.push_event_at-in-NotInductive.result (c.push_event_at-in-NotInductive.new.out.items ≡ c.args.out.now.items ++ t))
    (ap (λ l. codes "not inductive" ++ l)
    (event_spaced (framed_event_of c.in-NotInductive.event) (place_words c.in-NotInductive.at c.in-NotInductive.step))
    ∙ ap (λ (n : FramedEnding). joined (ending_words (framed_ending_of n))) (sym c.in-NotInductive.is))
    c.push_event_at-in-NotInductive.ensures
