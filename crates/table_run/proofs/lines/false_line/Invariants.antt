use Rattle.std.proofs.Common.{◌≡◌, drop, map}
use Rattle.word_spec.specs.Memory.{endian}
use Rattle.bilv_spec.specs.Run as meaning
use Rattle.notes_value.specs.NoteViews.{note_line_of}
use Rattle.table_run.proofs.lines.false_line.Given as goal

abbrev pub invariant-loop-line : goal.invariant-loop-line
invariant-loop-line g l =
    meaning.false_line (endian l.big) (map note_line_of l.lines) (g.V.View.view l.now) (g.V.View.view l.entry)
    ≡ meaning.false_line (endian l.big) (map note_line_of (drop l.line-index l.lines)) (g.V.View.view l.now) (g.V.View.view l.entry)
