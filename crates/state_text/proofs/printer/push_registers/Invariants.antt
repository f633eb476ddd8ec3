use Rattle.std.proofs.Common.{◌≡◌, ◌++◌, drop}
use Rattle.machine_spec.specs.StateText.{register_lines}
use Rattle.start_value.specs.Starts.{layout_of}
use Rattle.state_text.specs.Starts.{lines_text}
use Rattle.state_text.proofs.printer.push_registers.Given as goal

abbrev pub invariant-loop-place : goal.invariant-loop-place
invariant-loop-place l =
    l.out.items ++ lines_text (layout_of l.layout) (register_lines l.place (drop l.place l.regs))
    ≡ l.initial.out.items ++ lines_text (layout_of l.layout) (register_lines 0 l.regs)
