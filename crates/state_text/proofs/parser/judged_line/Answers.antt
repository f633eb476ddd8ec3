use Rattle.std.proofs.Common.{sym, ap, ◌∙◌}
use Rattle.std.specs.Option.{option_map}
use Rattle.machine_spec.specs.StateText.{line_of}
use Rattle.start_value.specs.Starts.{layout_of}
use Rattle.state_text.specs.Lines.{line_said}
use Rattle.state_text.specs.Readings.{fault_of}
use Rattle.state_text.proofs.Judging.{judged_refused, judged_said}
use Rattle.state_text.proofs.parser.judged_line.Goals as goal

pub returns-in-Some-refusal-clause-refused : goal.returns-in-Some-refusal-clause-refused
returns-in-Some-refusal-clause-refused c before h =
    judged_refused (layout_of c.args.layout) before (line_of (layout_of c.args.layout) c.args.text.now) (line_said c.in-Some.line)
    (fault_of c.in-Some-refusal.kind)
    (sym (ap (option_map line_said) c.in-Some.is) ∙ c.in_ok-line.ensures) (sym (ap (option_map fault_of) c.in-Some-refusal.is) ∙ c.refusal.ensures before h)

pub returns-clause-said : goal.returns-clause-said
returns-clause-said c before h =
    judged_said (layout_of c.args.layout) before (line_of (layout_of c.args.layout) c.args.text.now) (line_said c.in-Some.line)
    (sym (ap (option_map line_said) c.in-Some.is) ∙ c.in_ok-line.ensures) (sym (c.refusal.ensures before h) ∙ ap (option_map fault_of) c.in_default-refusal.is)
