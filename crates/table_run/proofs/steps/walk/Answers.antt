use Rattle.std.proofs.Common.{arith, sym}
use Rattle.notes_value.specs.Reads.{IsReadable}
use Rattle.notes_value.specs.NoteViews.{assert_of}
use Rattle.table_run.proofs.Stepped.{lawful_row}
use Rattle.table_run.proofs.Lists.{unmapped}
use Rattle.table_run.proofs.steps.walk.Goals as goal

pub false_assert-requires-clause-readable : goal.false_assert-requires-clause-readable
false_assert-requires-clause-readable g c =
    unmapped (λ l. IsReadable g.M.State.View.has_register l.says) assert_of c.args.p.now.notes.now.asserts.items c.deref.result.now c.deref.ensures.value
    c.args.p.now.readable.asserts

pub row_step-requires-clause-lawful : goal.row_step-requires-clause-lawful
row_step-requires-clause-lawful g c =
    lawful_row g.M.Machine.machine c.decoded_at-word.result (g.M.Machine.row c.in-Some-decode.insn) g.met.M.Machine.lawful (omega arith)
    c.in-Some-decode.ensures

pub row_step-requires-clause-length : goal.row_step-requires-clause-length
row_step-requires-clause-length g c = c.length-length.ensures.of_row (g.M.Machine.row c.in-Some-decode.insn) (sym c.in-Some-decode.ensures)
