use Rattle.std.proofs.Common.{ap, ◌∙◌, ◌-◌}
use Rattle.std.specs.Option.{option_map}
use Rattle.start_value.specs.Starts.{layout_of, written_of}
use Rattle.state_text.specs.Starts.{written_head_of}
use Rattle.call_text.proofs.Pieces.{open_lines}
use Rattle.call_text.proofs.printer.push_open_parts.Goals as goal

pub returns : goal.returns
returns c =
    c.truncate.ensures.items
    ∙ open_lines (layout_of c.args.layout) (written_of c.args.start.now) (option_map written_head_of c.args.head.now) c.args.out.now.items
    c.push_parts.new.out.items _ c.in_ok-push_parts.ensures (ap (λ n. n - 4) (c.len-len.ensures ∙ c.push_parts.new.out.ok.0))
