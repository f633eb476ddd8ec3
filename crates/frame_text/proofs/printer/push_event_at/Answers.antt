use Rattle.std.proofs.Common.{ap, ◌∙◌, ◌++◌, codes}
use Rattle.word_spec.specs.Texts.{joined}
use Rattle.machine_spec.specs.Endings.{place_words}
use Rattle.frame_texts_spec.specs.FrameTexts.{frame_event_words}
use Rattle.state_text.proofs.Appends.{four}
use Rattle.frame_text.specs.Texts.{framed_event_of}
use Rattle.frame_text.proofs.Pieces.{event_then}
use Rattle.frame_text.proofs.printer.push_event_at.Goals as goal

pub returns : goal.returns
returns c =
    four c.args.out.now.items c.push_text.new.out.items c.push_framed_event.new.out.items c.push_text-2.new.out.items c.push_step.new.out.items
    c.args.first.now (joined (frame_event_words (framed_event_of c.args.event))) (codes " ") (joined (place_words c.args.at c.args.step))
    c.in_ok-push_text.ensures c.in_ok-push_framed_event.ensures c.in_ok-push_text-2.ensures c.in_ok-push_step.ensures
    ∙ ap (λ l. c.args.out.now.items ++ (c.args.first.now ++ l)) (event_then (framed_event_of c.args.event) c.args.at c.args.step)
