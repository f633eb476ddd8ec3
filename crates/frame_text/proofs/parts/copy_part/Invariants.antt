use Rattle.std.proofs.Common.{◌≡◌, ◌+◌, ◌++◌, ◌≤◌, length}
use Rattle.word_spec.specs.Texts.{lines, split_lines}
use Rattle.frame_texts_spec.specs.FrameTexts.{part_of}
use Rattle.start_value.specs.Starts.{layout_of}
use Rattle.frame_text.proofs.parts.copy_part.Given as goal

abbrev pub invariant-loop-rest : goal.invariant-loop-rest
invariant-loop-rest l = record {
  out : l.out.items ++ lines (part_of (layout_of l.layout) (split_lines l.rest)).lines
      ≡ l.initial.out.items ++ lines (part_of (layout_of l.layout) (split_lines l.fn.text)).lines;
  count : l.count + length (part_of (layout_of l.layout) (split_lines l.rest)).lines ≡ length (part_of (layout_of l.layout) (split_lines l.fn.text)).lines;
  behind : (part_of (layout_of l.layout) (split_lines l.rest)).behind ≡ (part_of (layout_of l.layout) (split_lines l.fn.text)).behind;
  room : l.count + length l.rest ≤ length l.fn.text;
}

abbrev pub decreases-loop-rest : goal.decreases-loop-rest
decreases-loop-rest l = length l.rest
