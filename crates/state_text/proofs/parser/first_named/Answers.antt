use Rattle.std.proofs.Common.{ap, sym, ◌∙◌, Some}
use Rattle.std.specs.Option.{option_map}
use Rattle.machine_spec.specs.StateText.{line_of}
use Rattle.start_value.specs.Starts.{layout_of}
use Rattle.state_text.specs.Lines.{line_said}
use Rattle.state_text.proofs.Judging.{first_other}
use Rattle.state_text.proofs.parser.first_named.Goals as goal

pub returns-in_default-line : goal.returns-in_default-line
returns-in_default-line c = record {
  named = tt;
  other = λ known ls.
      first_other (layout_of c.args.layout) known ls (line_of (layout_of c.args.layout) c.args.text.now) (Some c.in-Some.line)
      (sym (ap (option_map line_said) c.in-Some.is) ∙ c.in_ok-line.ensures) (λ n e. c.in_default-line.not-Named n (cc));
}
