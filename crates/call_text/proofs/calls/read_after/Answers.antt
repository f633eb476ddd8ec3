use Rattle.std.specs.Option.{option_map}
use Rattle.word_spec.specs.Texts.{split_lines}
use Rattle.start_value.specs.Starts.{layout_of}
use Rattle.frame_text.specs.Readings.{frame_fault_of}
use Rattle.call_text.specs.Lines.{block_said}
use Rattle.call_text.proofs.BlockLines.{after_told}
use Rattle.call_text.proofs.calls.read_after.Goals as goal

pub returns-clause-refused : goal.returns-clause-refused
returns-clause-refused c changes =
    after_told (layout_of c.args.layout) changes c.args.line c.first_line.result.0.now (split_lines c.first_line.result.1.now) (split_lines c.args.text.now)
    (option_map block_said c.in_ok-said.said) (frame_fault_of c.fault_after.result) c.first_line.ensures.line c.in_ok-said.ensures c.fault_after.ensures
