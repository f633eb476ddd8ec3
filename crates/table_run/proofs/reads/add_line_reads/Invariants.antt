use Rattle.std.proofs.Common.{◌≡◌, ◌++◌, drop, map}
use Rattle.word_spec.specs.Memory.{endian}
use Rattle.model_spec.specs.Reads.{line_reads}
use Rattle.notes_value.specs.NoteViews.{note_line_of}
use Rattle.table_run.proofs.reads.add_line_reads.Given as goal

abbrev pub invariant-loop-line : goal.invariant-loop-line
invariant-loop-line g l =
    l.places.items ++ line_reads (endian l.big) (map note_line_of (drop l.line-index l.lines)) (g.V.View.view l.now) (g.V.View.view l.entry)
    ≡ l.fn.places.items ++ line_reads (endian l.big) (map note_line_of l.lines) (g.V.View.view l.now) (g.V.View.view l.entry)
