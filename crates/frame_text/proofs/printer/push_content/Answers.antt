use Rattle.std.proofs.Common.{ap, ◌∙◌, ◌++◌, length, map}
use Rattle.word_spec.specs.State.{Written}
use Rattle.machine_spec.specs.StateText as texts
use Rattle.machine_spec.specs.StateText.{ByteLine, register_lines, flag_bits}
use Rattle.start_value.specs.Starts.{layout_of, written_of}
use Rattle.state_text.specs.Starts.{lines_text}
use Rattle.state_text.proofs.Appends.{three}
use Rattle.frame_text.proofs.Pieces.{content_by}
use Rattle.frame_text.proofs.printer.push_content.Goals as goal

pub returns : goal.returns
returns c =
    let layout : texts.Layout = layout_of c.args.layout in
    let w : Written = written_of c.args.start.now in
    three c.args.out.now.items c.push_registers.new.out.items c.push_flags.new.out.items c.push_bytes.new.out.items
    (lines_text layout (register_lines 0 c.as_slice-regs.result.now))
    (lines_text layout (register_lines (length c.as_slice-regs.result.now) (flag_bits c.flag_count.result w.flags)))
    (lines_text layout (map (λ b. ByteLine b.0 b.1) c.as_slice.result.now))
    c.in_ok-push_registers.ensures c.in_ok-push_flags.ensures (c.in_ok-push_bytes.ensures layout)
    ∙ ap (λ l. c.args.out.now.items ++ l) (content_by layout w c.as_slice-regs.result.now (length c.as_slice-regs.result.now) c.flag_count.result
    c.as_slice.result.now c.as_slice-regs.ensures.value (ap length c.as_slice-regs.ensures.value) c.flag_count.ensures c.as_slice.ensures.value)
