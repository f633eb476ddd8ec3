use Rattle.notes_value.specs.FrameViews.{writes_of}
use Rattle.notes_value.specs.Reads.{IsReadable}
use Rattle.table_run.proofs.ContractSteps.{readable_at}
use Rattle.table_run.proofs.Lists.{unmapped}
use Rattle.table_run.proofs.observers.written_there.Goals as goal

pub writable-requires : goal.writable-requires
writable-requires g c =
    let readable = readable_at g.M.State.View.has_register c.args.frame.now.stepped.now c.in-Some.contract.now c.requires.stepped c.in-Some.ensures.listed in
    unmapped (λ w. IsReadable g.M.State.View.has_register w.says) writes_of c.in-Some.contract.now.writes.items c.deref.result.now c.deref.ensures.value
    readable.writes
