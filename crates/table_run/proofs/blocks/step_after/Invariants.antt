use Rattle.std.proofs.Common.{◌≡◌, drop, map}
use Rattle.frame_texts_spec.specs.CallReplays.{block_after}
use Rattle.state_text.specs.Starts.{written_call_of}
use Rattle.table_run.proofs.blocks.step_after.Given as goal

abbrev pub invariant-loop-call : goal.invariant-loop-call
invariant-loop-call l = block_after (map written_call_of (drop l.call-index l.calls)) l.last ≡ block_after (map written_call_of l.calls) l.last
