use Rattle.std.proofs.Common.{◌++◌, sym, ap, ◌∙◌}
use Rattle.bilv_spec.specs.Notes as meaning
use Rattle.trace_texts_spec.specs.NoteTexts.{text_at}
use Rattle.notes_value.specs.Views.{expr_of}
use Rattle.value_steps.specs.Called.{names_of}
use Rattle.value_steps.proofs.Texts.{all_text}
use Rattle.value_steps.proofs.expressions.+push_at.Goals as goal

pub returns-in_ok-push_text-in-All-2 : goal.returns-in_ok-push_text-in-All-2
returns-in_ok-push_text-in-All-2 t c =
    let names = names_of c.args.layout in
    let out = c.args.out.now.items in
    all_text names c.args.level c.args.bound c.in-All.low c.in-All.field-1 (expr_of c.in-All.a.value) out _ _ _
    c.in_ok-push_text-in-All.ensures
    (c.in_ok-push_at-in-All.ensures ∙ ap (λ z. c.push_text-in-All.new.out.items ++ text_at names 1 (meaning.put_bound c.in-All.low (expr_of z))) c.deref-in-All.ensures)
    c.in_ok-push_text-in-All-2.ensures
    ∙ sym (ap (λ z. out ++ text_at names c.args.level (meaning.put_bound c.args.bound (expr_of z))) c.in-All.is)
