use Rattle.std.proofs.Common.{◌≡◌, IfOk, subst}
use Rattle.bilv_spec.specs.EntryFaults.{IsEntryStateFault}
use Rattle.bilv_spec.specs.Reports as reports
use Rattle.call_spec.specs.Calls.{Answer, plain_answer}
use Rattle.frame_spec.specs.Theorems.{as_start}
use Rattle.frame_texts_spec.specs.FrameTexts.{some_ending}
use Rattle.table_run.specs.Endings.{fault_of}
use Rattle.table_run.specs.declared.ending.EntryFault.{EntryFault}
use Rattle.frame_replay.proofs.Replayed.{unaligned_is, required_is}
use Rattle.frame_replay.proofs.running.faulted.Goals as goal

pub returns-in-Link : goal.returns-in-Link
returns-in-Link c f named start entry fault =
    subst (λ (a : Answer). IfOk c.unaligned.result (λ r. plain_answer r.status r.text.items ≡ a))
    (unaligned_is f named start (subst (λ (x : EntryFault). IsEntryStateFault f.program start.state (fault_of x)) c.in-Link.is fault))
    (c.unaligned.ensures f.program some_ending (as_start start))

pub returns-in-Require : goal.returns-in-Require
returns-in-Require c f named start entry fault =
    subst (λ (a : Answer). IfOk c.false_require.result (λ r. plain_answer r.status r.text.items ≡ a))
    (required_is f named start c.in-Require.line entry
    (subst (λ (x : EntryFault). IsEntryStateFault f.program start.state (fault_of x)) c.in-Require.is fault))
    (c.false_require.ensures some_ending (reports.FoundExit 0 0))
