use Rattle.std.proofs.Common.{◌++◌, ap, ◌∙◌}
use Rattle.word_spec.specs.Texts.{word_text}
use Rattle.trace_texts_spec.specs.NoteTexts.{text_at}
use Rattle.trace_texts_spec.specs.ValueLines.{within}
use Rattle.notes_value.specs.Views.{expr_of}
use Rattle.value_steps.specs.Called.{names_of}
use Rattle.value_steps.proofs.Texts.{value_pieces}
use Rattle.value_steps.proofs.lines.push_line.Goals as goal

pub returns : goal.returns
returns g c =
    value_pieces c.args.out.now.items _ (text_at (names_of c.args.layout) 1 (within c.args.in_old (expr_of c.args.expr.now))) _ _ _ _ _
    c.in_ok-push_text.ensures
    (c.in_ok-push_word.ensures ∙ ap (λ v. c.push_text.new.out.items ++ word_text v) c.value_within.ensures)
    c.in_ok-push_text-2.ensures c.in_ok-push_within.ensures c.in_ok-push_text-3.ensures
