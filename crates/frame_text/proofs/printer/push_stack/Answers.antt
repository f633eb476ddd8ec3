use Rattle.std.proofs.Common.{◌++◌, map}
use Rattle.word_spec.specs.Texts.{lines}
use Rattle.frame_texts_spec.specs.FrameTexts.{stack_line}
use Rattle.frame_text.proofs.Pieces.{next_address}
use Rattle.frame_text.proofs.printer.push_stack.Goals as goal

pub loop-at-preserved : goal.loop-at-preserved
loop-at-preserved c =
    next_address c.args.stack.now c.loop-at.at-index c.loop-at.out.items c.push_address_line.new.out.items
    (c.args.out.now.items ++ lines (map stack_line c.args.stack.now)) c.loop-at-test.true c.in_ok-push_address_line.ensures c.loop-at.invariant
