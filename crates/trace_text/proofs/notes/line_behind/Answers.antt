use Rattle.std.proofs.Common.{sym, ◌∙◌}
use Rattle.word_spec.specs.Texts.{split_lines}
use Rattle.trace_text.proofs.NoteLines.{passed, taken_first, none_there}
use Rattle.trace_text.proofs.notes.line_behind.Goals as goal

pub loop-rest-preserved : goal.loop-rest-preserved
loop-rest-preserved c =
    sym (passed (split_lines c.loop-rest.rest.now) c.first_line.result.0.now (split_lines c.first_line.result.1.now) c.loop-rest.left
    c.first_line.ensures.line c.if-left-eq0.false) ∙ c.loop-rest.invariant

pub returns-then-left-eq0 : goal.returns-then-left-eq0
returns-then-left-eq0 c =
    taken_first (split_lines c.loop-rest.rest.now) c.first_line.result.0.now (split_lines c.first_line.result.1.now) c.loop-rest.left
    c.first_line.ensures.line c.if-left-eq0.true ∙ c.loop-rest.invariant

pub returns : goal.returns
returns c = none_there c.loop-rest.rest.now c.loop-rest.left (sym c.loop-rest-test.false ∙ c.is_empty.ensures) ∙ c.loop-rest.invariant
