use Rattle.notes_lang.proofs.FirstLines.{split_at}
use Rattle.framed_notes.proofs.lines.first_line.Goals as goal

pub returns-clause-lines : goal.returns-clause-lines
returns-clause-lines c =
    split_at c.args.text.now c.line_end-end.result c.without_return.result.now c.line_end-end.ensures.within c.if-end-text.false
    c.line_end-end.ensures.none_before c.line_end-end.ensures.found c.without_return.ensures
