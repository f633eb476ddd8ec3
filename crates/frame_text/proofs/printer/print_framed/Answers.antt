use Rattle.std.proofs.Common.{ap, ◌∙◌, ◌++◌, [], codes}
use Rattle.word_spec.specs.Texts.{joined, lines}
use Rattle.machine_spec.specs.StateText as texts
use Rattle.frame_texts_spec.specs.FrameTexts.{FramedText, ending_words, lines_of_parts}
use Rattle.start_value.specs.Starts.{layout_of}
use Rattle.state_text.proofs.Appends.{three}
use Rattle.frame_text.specs.Texts.{framed_text_of}
use Rattle.frame_text.proofs.Pieces.{framed_whole}
use Rattle.frame_text.proofs.printer.print_framed.Goals as goal

pub returns : goal.returns
returns c =
    let layout : texts.Layout = layout_of c.args.layout in
    let t : FramedText = framed_text_of c.args.text.now in
    three [] c.push_framed_ending.new.out.items c.push_text.new.out.items c.push_parts.new.out.items
    (joined (ending_words t.named)) (codes "\n") (lines (lines_of_parts layout t.start t.head))
    (c.in_ok-push_framed_ending.ensures ∙ ap (λ l. l ++ joined (ending_words t.named)) c.new-out.ensures.items)
    c.in_ok-push_text.ensures c.in_ok-push_parts.ensures
    ∙ framed_whole layout t
