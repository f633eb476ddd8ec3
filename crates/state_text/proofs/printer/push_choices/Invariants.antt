use Rattle.std.proofs.Common.{◌≡◌, ◌++◌, drop, map}
use Rattle.machine_spec.specs.StateText.{Layout, ChoiceLine}
use Rattle.state_text.specs.Starts.{lines_text}
use Rattle.state_text.proofs.printer.push_choices.Given as goal

abbrev pub invariant-loop-step : goal.invariant-loop-step
invariant-loop-step l =
    (layout : Layout) → l.out.items ++ lines_text layout (map (λ c. ChoiceLine c.0 c.1) (drop l.step-index l.choices))
    ≡ l.initial.out.items ++ lines_text layout (map (λ c. ChoiceLine c.0 c.1) l.choices)
