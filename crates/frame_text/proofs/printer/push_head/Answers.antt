use Rattle.std.proofs.Common.{ap, ◌∙◌, ◌++◌, ◌∷◌, List, map}
use Rattle.word_spec.specs.Texts.{line, lines}
use Rattle.machine_spec.specs.StateText as texts
use Rattle.frame_spec.specs.FrameReports.{WrittenHead}
use Rattle.frame_texts_spec.specs.FrameTexts.{content_lines, last_lines, line_texts, head_line, stack_line}
use Rattle.start_value.specs.Starts.{layout_of}
use Rattle.state_text.specs.Starts.{written_head_of}
use Rattle.state_text.proofs.Appends.{four}
use Rattle.frame_text.proofs.Pieces.{head_by}
use Rattle.frame_text.proofs.printer.push_head.Goals as goal

pub returns : goal.returns
returns c =
    let layout : texts.Layout = layout_of c.args.layout in
    let h : WrittenHead = written_head_of c.args.head.now in
    let content : List texts.StateLine = content_lines layout h.start in
    let last : List texts.StateLine = last_lines h.start in
    four c.args.out.now.items c.push_address_line.new.out.items c.push_stack.new.out.items c.push_content.new.out.items c.push_last.new.out.items
    (line (head_line h.at)) (lines (map stack_line c.as_slice.result.now)) (lines (line_texts layout content)) (lines (line_texts layout last))
    c.in_ok-push_address_line.ensures c.in_ok-push_stack.ensures c.in_ok-push_content.ensures (c.in_ok-push_last.ensures layout)
    ∙ ap (λ l. c.args.out.now.items ++ l) (head_by layout (head_line h.at) (map stack_line c.as_slice.result.now) content last)
    ∙ ap (λ s. c.args.out.now.items ++ lines (head_line h.at ∷ map stack_line s ++ line_texts layout (content ++ last))) c.as_slice.ensures.value
