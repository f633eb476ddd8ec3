use Rattle.std.proofs.Common.{ap, sym, ◌∙◌, false}
use Rattle.machine_spec.specs.StateText.{line_refusal}
use Rattle.start_value.specs.Starts.{layout_of}
use Rattle.state_text.specs.Lines.{line_said}
use Rattle.state_text.specs.declared.state_line.StateLine.{StateLine}
use Rattle.state_text.proofs.progress.Progress.refusal.Goals as goal

pub returns-in-Register : goal.returns-in-Register
returns-in-Register c before h =
    c.register_refusal.ensures (layout_of c.args.layout) before c.in-Register.value h
    ∙ ap (λ (l : StateLine). line_refusal (layout_of c.args.layout) (λ a. false) before (line_said l)) (sym c.in-Register.is)
