use Rattle.std.proofs.Common.{◌≡◌, ◌++◌, drop}
use Rattle.frame_texts_spec.specs.CallTexts.{value_lines}
use Rattle.start_value.specs.Starts.{layout_of}
use Rattle.state_text.specs.Starts.{lines_text}
use Rattle.call_text.proofs.printer.push_values.Given as goal

abbrev pub invariant-loop-i : goal.invariant-loop-i
invariant-loop-i l =
    l.out.items ++ lines_text (layout_of l.layout) (value_lines (drop l.i l.places) (drop l.i l.values))
    ≡ l.initial.out.items ++ lines_text (layout_of l.layout) (value_lines l.places l.values)
