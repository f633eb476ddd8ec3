use Rattle.std.proofs.Common.{ℕ, refl, ap, ◌∙◌, ◌++◌, ◌+◌, ◌-◌}
use Rattle.word_spec.specs.Words.{bit_at}
use Rattle.word_spec.specs.Texts.{line}
use Rattle.machine_spec.specs.StateText.{RegisterLine, register_lines, flag_bits}
use Rattle.start_value.specs.Starts.{layout_of}
use Rattle.state_text.specs.Starts.{line_text, lines_text}
use Rattle.state_text.proofs.Appends.{two}
use Rattle.state_text.proofs.Printing.{flags_more}
use Rattle.state_text.proofs.printer.+push_flags.Goals as goal

pub returns : goal.returns
returns t c =
    let v : ℕ = bit_at (c.args.count - 1) c.args.flags in
    two c.args.out.now.items c.push_value.new.out.items c.push_flags.new.out.items (line (line_text (layout_of c.args.layout) (RegisterLine c.args.place v)))
    (lines_text (layout_of c.args.layout) (register_lines (c.args.place + 1) (flag_bits (c.args.count - 1) c.args.flags)))
    c.in_ok-push_value.ensures c.in_ok-push_flags.ensures
    ∙ ap (λ l. c.args.out.now.items ++ l) (flags_more (layout_of c.args.layout) c.args.place c.args.count c.args.flags v c.if-count-eq0.false refl)
