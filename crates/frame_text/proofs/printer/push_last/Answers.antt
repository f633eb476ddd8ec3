use Rattle.std.proofs.Common.{ap, ◌∙◌, ◌++◌, map, codes}
use Rattle.machine_spec.specs.StateText.{ChoiceLine}
use Rattle.start_value.specs.Starts.{written_of}
use Rattle.state_text.specs.Starts.{lines_text}
use Rattle.state_text.proofs.Appends.{two}
use Rattle.frame_text.proofs.Pieces.{last_by}
use Rattle.frame_text.proofs.printer.push_last.Goals as goal

pub returns : goal.returns
returns c layout =
    two c.args.out.now.items c.push_choices.new.out.items c.push_text.new.out.items
    (lines_text layout (map (λ b. ChoiceLine b.0 b.1) c.as_slice.result.now)) (codes "end\n")
    (c.in_ok-push_choices.ensures layout) c.in_ok-push_text.ensures
    ∙ ap (λ l. c.args.out.now.items ++ l) (last_by layout (written_of c.args.start.now) c.as_slice.result.now c.as_slice.ensures.value)
