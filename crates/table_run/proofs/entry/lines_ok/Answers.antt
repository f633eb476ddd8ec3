use Rattle.notes_value.specs.Reads.{IsReadable}
use Rattle.notes_value.specs.NoteViews.{note_line_of}
use Rattle.table_run.proofs.Lists.{unmapped}
use Rattle.table_run.proofs.entry.lines_ok.Goals as goal

pub false_line-requires : goal.false_line-requires
false_line-requires g c =
    unmapped (λ l. IsReadable g.M.State.View.has_register l.says) note_line_of c.args.program.now.notes.now.required.items c.deref.result.now c.deref.ensures.value
    c.args.program.now.readable.requires
