use Rattle.std.proofs.Common.{ap, ◌∙◌, map, true, None, Some}
use Rattle.std.specs.Option.{option_map}
use Rattle.frame_texts_spec.specs.FrameTexts.{NotInductiveBy}
use Rattle.frame_text.specs.Texts.{framed_ending_of, framed_event_of}
use Rattle.frame_text.proofs.FirstLines.{ending_from}
use Rattle.frame_text.proofs.ending.after_inductive.Goals as goal

pub returns-in_err-event : goal.returns-in_err-event
returns-in_err-event c =
    ap (option_map framed_ending_of) c.from_residual.ensures
    ∙ ending_from NotInductiveBy true (map (λ word. word.now) c.args.words.now) None c.in_err-event.ensures

pub returns : goal.returns
returns c =
    ending_from NotInductiveBy true (map (λ word. word.now) c.args.words.now)
    (Some (framed_event_of c.in_ok-event.event, (c.in_ok-event.at, c.in_ok-event.step))) c.in_ok-event.ensures
