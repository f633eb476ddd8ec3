use Rattle.std.proofs.Common.{◌≡◌, ◌+◌, ◌++◌, ◌≤◌, length}
use Rattle.word_spec.specs.Texts.{split_lines}
use Rattle.frame_texts_spec.specs.FrameTexts.{stack_of}
use Rattle.start_value.specs.Starts.{layout_of}
use Rattle.frame_text.proofs.parts.read_stack.Given as goal

abbrev pub invariant-loop-alloc : goal.invariant-loop-alloc
invariant-loop-alloc l = record {
  stack : l.stack.items ++ (stack_of (layout_of l.layout) (split_lines l.rest)).addresses
      ≡ l.initial.stack.items ++ (stack_of (layout_of l.layout) (split_lines l.fn.text)).addresses;
  behind : (stack_of (layout_of l.layout) (split_lines l.rest)).behind ≡ (stack_of (layout_of l.layout) (split_lines l.fn.text)).behind;
  room : length l.stack.items + length l.rest ≤ length l.initial.stack.items + length l.fn.text;
}

abbrev pub decreases-loop-alloc : goal.decreases-loop-alloc
decreases-loop-alloc l = length l.rest
