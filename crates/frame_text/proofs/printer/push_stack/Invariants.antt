use Rattle.std.proofs.Common.{◌≡◌, ◌++◌, drop, map}
use Rattle.word_spec.specs.Texts.{lines}
use Rattle.frame_texts_spec.specs.FrameTexts.{stack_line}
use Rattle.frame_text.proofs.printer.push_stack.Given as goal

abbrev pub invariant-loop-at : goal.invariant-loop-at
invariant-loop-at l = l.out.items ++ lines (map stack_line (drop l.at-index l.stack)) ≡ l.initial.out.items ++ lines (map stack_line l.stack)
