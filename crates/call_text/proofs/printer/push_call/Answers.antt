use Rattle.std.proofs.Common.{ap, ◌∙◌, ◌++◌, map}
use Rattle.word_spec.specs.Texts.{line}
use Rattle.machine_spec.specs.StateText as texts
use Rattle.machine_spec.specs.StateText.{ByteLine}
use Rattle.frame_spec.specs.FrameReports.{WrittenCall}
use Rattle.frame_texts_spec.specs.CallTexts.{Changes, call_line, changes_or_none, places, value_lines, values_of}
use Rattle.start_value.specs.Starts.{layout_of}
use Rattle.state_text.specs.Starts.{lines_text, written_call_of}
use Rattle.state_text.proofs.Appends.{three}
use Rattle.call_text.specs.Texts.{changes_at}
use Rattle.call_text.proofs.Pieces.{block_is}
use Rattle.call_text.proofs.printer.push_call.Goals as goal

pub returns : goal.returns
returns c =
    let layout : texts.Layout = layout_of c.args.layout in
    let call : WrittenCall = written_call_of c.args.call.now in
    let x : Changes = changes_or_none (changes_at c.args.contracts.now call.at) in
    three c.args.out.now.items c.push_call_line.new.out.items c.push_given.new.out.items c.push_bytes.new.out.items (line (call_line call.step call.at))
    (lines_text layout (value_lines (places layout x) (values_of x call))) (lines_text layout (map (λ b. ByteLine b.0 b.1) c.as_slice.result.now))
    c.in_ok-push_call_line.ensures c.in_ok-push_given.ensures (c.in_ok-push_bytes.ensures layout)
    ∙ ap (λ l. c.args.out.now.items ++ l) (block_is layout x call c.as_slice.result.now c.as_slice.ensures.value)
