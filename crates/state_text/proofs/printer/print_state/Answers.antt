use Rattle.std.proofs.Common.{ap, ◌∙◌, ◌++◌, []}
use Rattle.word_spec.specs.Texts.{line}
use Rattle.machine_spec.specs.Endings.{named_line}
use Rattle.machine_spec.specs.StateText as texts
use Rattle.machine_spec.specs.StateText.{block_text}
use Rattle.start_value.specs.Starts.{layout_of}
use Rattle.state_text.specs.Starts.{text_of}
use Rattle.state_text.proofs.Appends.{two}
use Rattle.state_text.proofs.Printing.{whole}
use Rattle.state_text.proofs.printer.print_state.Goals as goal

pub returns : goal.returns
returns c =
    let layout : texts.Layout = layout_of c.args.layout in
    let text : texts.StateText = text_of c.args.text.now in
    two [] c.push_named.new.out.items c.push_block.new.out.items (line (named_line text.named)) (block_text layout text.start)
    (c.in_ok-push_named.ensures ∙ ap (λ l. l ++ line (named_line text.named)) c.new-out.ensures.items) c.in_ok-push_block.ensures
    ∙ whole layout text
