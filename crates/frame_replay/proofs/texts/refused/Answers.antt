use Rattle.std.proofs.Common.{◌≡◌, IfOk, ap, sym, subst, ◌∙◌}
use Rattle.word_spec.specs.Texts.{number_text}
use Rattle.call_spec.specs.Calls.{Answer, plain_answer}
use Rattle.frame_texts_spec.specs.CallReplays.{call_told_answer}
use Rattle.frame_texts_spec.specs.CallTexts.{CallRefused, OfFramed}
use Rattle.frame_text.specs.Readings.{frame_fault_of}
use Rattle.frame_text.specs.declared.fault.FrameFault.{FrameFault}
use Rattle.frame_replay.proofs.Replayed.{head_text}
use Rattle.frame_replay.proofs.texts.refused.Goals as goal

pub returns-in-OfPart : goal.returns-in-OfPart
returns-in-OfPart c w layout =
    subst (λ (k : FrameFault). IfOk c.refused.result (λ r. plain_answer r.status r.text.items
    ≡ call_told_answer w layout (CallRefused c.args.refusal.line (OfFramed (frame_fault_of k))))) (sym c.in-OfPart.is) (c.refused.ensures w.program layout)

pub returns-in-Head : goal.returns-in-Head
returns-in-Head c w layout =
    subst (λ (a : Answer). IfOk c.numbered.result (λ r. plain_answer r.status r.text.items ≡ a))
    (ap (plain_answer 9) (head_text (number_text c.args.refusal.line))
    ∙ sym (ap (λ (k : FrameFault). call_told_answer w layout (CallRefused c.args.refusal.line (OfFramed (frame_fault_of k)))) c.in-Head.is)) c.numbered.ensures
