use Rattle.notes_value.specs.Reads.{IsReadable}
use Rattle.notes_value.specs.NoteViews.{assert_of}
use Rattle.table_run.proofs.Lists.{unmapped}
use Rattle.table_run.proofs.heads.head_ok.Goals as goal

pub false_invariant-requires-clause-readable : goal.false_invariant-requires-clause-readable
false_invariant-requires-clause-readable g c =
    unmapped (λ l. IsReadable g.M.State.View.has_register l.says) assert_of c.args.program.now.notes.now.asserts.items c.deref.result.now c.deref.ensures.value
    c.args.program.now.readable.asserts
