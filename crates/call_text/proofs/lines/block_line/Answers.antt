use Rattle.std.proofs.Common.{sym, ap, ◌∙◌}
use Rattle.frame_texts_spec.specs.CallTexts.{call_of}
use Rattle.frame_texts_spec.specs.FrameTexts.{mark_of}
use Rattle.machine_spec.specs.StateText.{line_of}
use Rattle.std.specs.Option.{option_map}
use Rattle.state_text.specs.Lines.{line_said}
use Rattle.start_value.specs.Starts.{layout_of}
use Rattle.frame_text.specs.Parts.{mark_said}
use Rattle.call_text.proofs.BlockLines.{head_alone}
use Rattle.call_text.proofs.lines.block_line.Goals as goal

pub returns : goal.returns
returns c =
    head_alone (mark_said c.in-Some-3.mark) (call_of c.args.text.now) (line_of (layout_of c.args.layout) c.args.text.now)
    (mark_of (layout_of c.args.layout) c.args.text.now) (sym c.in_default.is ∙ c.in_ok-step.ensures)
    (ap (option_map line_said) (sym c.in_default-2.is) ∙ c.in_ok-line.ensures) (ap (option_map mark_said) (sym c.in-Some-3.is) ∙ c.in_ok-mark.ensures)
