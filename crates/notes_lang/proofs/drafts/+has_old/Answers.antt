use Rattle.std.proofs.Common.{ap, sym, ◌∙◌}
use Rattle.notes_spec.specs.NotesGrammar.{has_old}
use Rattle.notes_value.specs.Views.{expr_of}
use Rattle.notes_lang.proofs.Growing.{all_old}
use Rattle.notes_lang.proofs.drafts.+has_old.Goals as goal

pub returns-in-All : goal.returns-in-All
returns-in-All t c =
    c.has_old-in-All.ensures ∙ (ap (λ e. has_old (expr_of e)) c.deref-in-All.ensures
    ∙ (sym (all_old c.in-All.field-0 c.in-All.field-1 (expr_of c.in-All.a.value)) ∙ sym (ap (λ e. has_old (expr_of e)) c.in-All.is)))
