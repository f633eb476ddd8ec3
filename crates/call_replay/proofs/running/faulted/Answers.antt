use Rattle.std.proofs.Common.{◌≡◌, IfOk, subst}
use Rattle.bilv_spec.specs.EntryFaults.{IsEntryStateFault}
use Rattle.call_spec.specs.Calls.{Answer, plain_answer}
use Rattle.frame_spec.specs.Theorems.{as_start}
use Rattle.frame_texts_spec.specs.CallReplays.{bare, outcome}
use Rattle.frame_texts_spec.specs.FrameTexts.{some_ending}
use Rattle.table_run.specs.Endings.{fault_of}
use Rattle.table_run.specs.declared.ending.EntryFault.{EntryFault}
use Rattle.call_replay.proofs.Replayed.{false_first, unaligned_is}
use Rattle.call_replay.proofs.running.faulted.Goals as goal

pub returns-in-Link : goal.returns-in-Link
returns-in-Link c f n start calls named none fault =
    subst (λ (a : Answer). IfOk c.unaligned.result (λ r. plain_answer r.status r.text.items ≡ a))
    (unaligned_is f n start calls (subst (λ (x : EntryFault). IsEntryStateFault f.program start.state (fault_of x)) c.in-Link.is fault))
    (c.unaligned.ensures f.program some_ending (as_start start))

pub returns-in-Require : goal.returns-in-Require
returns-in-Require c f n start calls named none fault =
    subst (λ (a : Answer). IfOk c.false_line.result (λ r. plain_answer r.status r.text.items ≡ a))
    (false_first f n start calls c.in-Require.line
    (subst (λ (x : EntryFault). IsEntryStateFault f.program start.state (fault_of x)) c.in-Require.is fault) none)
    (c.false_line.ensures n (outcome f (bare n) start calls) named)
