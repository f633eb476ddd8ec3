use Rattle.machine_spec.specs.StateText.{ChoiceLine}
use Rattle.state_text.proofs.Printing.{next_line}
use Rattle.std.proofs.Common.{◌++◌, map}
use Rattle.state_text.specs.Starts.{lines_text}
use Rattle.state_text.proofs.printer.push_choices.Goals as goal

pub loop-step-preserved : goal.loop-step-preserved
loop-step-preserved c layout =
    next_line (λ b. ChoiceLine b.0 b.1) layout c.args.choices.now c.loop-step.step-index c.loop-step.out.items c.push_choice_line.new.out.items
    (c.args.out.now.items ++ lines_text layout (map (λ b. ChoiceLine b.0 b.1) c.args.choices.now)) c.loop-step-test.true
    (c.in_ok-push_choice_line.ensures layout) (c.loop-step.invariant layout)
