use Rattle.std.proofs.Common.{◌++◌}
use Rattle.frame_texts_spec.specs.CallTexts.{value_lines}
use Rattle.start_value.specs.Starts.{layout_of}
use Rattle.state_text.specs.Starts.{lines_text}
use Rattle.call_text.proofs.Pieces.{values_end}
use Rattle.call_text.proofs.printer.push_values.Goals as goal

pub returns-then-i-values : goal.returns-then-i-values
returns-then-i-values c =
    values_end (layout_of c.args.layout) c.args.places.now c.args.values.now c.loop-i.i c.loop-i.out.items
    (c.args.out.now.items ++ lines_text (layout_of c.args.layout) (value_lines c.args.places.now c.args.values.now)) c.if-i-values.true c.loop-i.invariant
