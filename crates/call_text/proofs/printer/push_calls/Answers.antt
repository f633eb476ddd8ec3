use Rattle.std.proofs.Common.{◌++◌, map}
use Rattle.word_spec.specs.Texts.{lines}
use Rattle.frame_texts_spec.specs.CallTexts.{blocks}
use Rattle.start_value.specs.Starts.{layout_of}
use Rattle.state_text.specs.Starts.{written_call_of}
use Rattle.call_text.specs.Texts.{changes_at}
use Rattle.call_text.proofs.Pieces.{next_block}
use Rattle.call_text.proofs.printer.push_calls.Goals as goal

pub loop-call-preserved : goal.loop-call-preserved
loop-call-preserved c =
    next_block (layout_of c.args.layout) (changes_at c.args.contracts.now) written_call_of c.args.calls.now c.loop-call.call-index c.call-item.result
    c.loop-call.out.items c.push_call.new.out.items
    (c.args.out.now.items ++ lines (blocks (layout_of c.args.layout) (changes_at c.args.contracts.now) (map written_call_of c.args.calls.now)))
    c.loop-call-test.true c.call-item.is c.in_ok-push_call.ensures c.loop-call.invariant
