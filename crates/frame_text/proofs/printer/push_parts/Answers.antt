use Rattle.std.proofs.Common.{ℕ, Option, ap, sym, ◌∙◌, ◌++◌, ◌∷◌, List, map}
use Rattle.std.specs.Option.{option_map}
use Rattle.word_spec.specs.State.{Written}
use Rattle.word_spec.specs.Texts.{line, lines}
use Rattle.machine_spec.specs.StateText as texts
use Rattle.machine_spec.specs.StateText.{MachineLine}
use Rattle.frame_spec.specs.FrameReports.{WrittenHead}
use Rattle.frame_texts_spec.specs.FrameTexts.{content_lines, last_lines, line_texts, head_line, stack_line, lines_of_parts}
use Rattle.start_value.specs.Starts.{layout_of, written_of}
use Rattle.state_text.specs.Starts.{line_text, written_head_of}
use Rattle.state_text.specs.declared.start.HeadStart.{HeadStart}
use Rattle.state_text.proofs.Appends.{three}
use Rattle.frame_text.proofs.Pieces.{first_then}
use Rattle.frame_text.proofs.printer.push_parts.Goals as goal

pub returns-in_ok-push_head-in-Some : goal.returns-in_ok-push_head-in-Some
returns-in_ok-push_head-in-Some c =
    let layout : texts.Layout = layout_of c.args.layout in
    let w : Written = written_of c.args.start.now in
    let h : WrittenHead = written_head_of c.in-Some.head in
    let front : List (List ℕ) = line_texts layout (content_lines layout w) in
    let behind : List (List ℕ) = head_line h.at ∷ map stack_line h.stack ++ line_texts layout (content_lines layout h.start ++ last_lines h.start) in
    three c.args.out.now.items c.push_machine.new.out.items c.push_content.new.out.items c.push_head.new.out.items
    (line (line_text layout MachineLine)) (lines front) (lines behind)
    c.in_ok-push_machine-in-Some.ensures c.in_ok-push_content-in-Some.ensures c.in_ok-push_head-in-Some.ensures
    ∙ ap (λ l. c.args.out.now.items ++ l) (first_then (line_text layout MachineLine) front behind)
    ∙ ap (λ (o : Option HeadStart). c.args.out.now.items ++ lines (lines_of_parts layout w (option_map written_head_of o))) (sym c.in-Some.is)
