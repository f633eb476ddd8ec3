use Rattle.std.proofs.Common.{◌≡◌, ◌++◌, drop, map}
use Rattle.machine_spec.specs.StateText.{Layout, ByteLine}
use Rattle.state_text.specs.Starts.{lines_text}
use Rattle.state_text.proofs.printer.push_bytes.Given as goal

abbrev pub invariant-loop-at : goal.invariant-loop-at
invariant-loop-at l =
    (layout : Layout) → l.out.items ++ lines_text layout (map (λ b. ByteLine b.0 b.1) (drop l.at-index l.bytes))
    ≡ l.initial.out.items ++ lines_text layout (map (λ b. ByteLine b.0 b.1) l.bytes)
