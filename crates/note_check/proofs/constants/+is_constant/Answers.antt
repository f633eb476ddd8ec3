use Rattle.std.proofs.Common.{ap, sym, ◌∙◌}
use Rattle.notes_value.specs.Views.{expr_of}
use Rattle.note_check.specs.Constants.{is_constant}
use Rattle.note_check.proofs.Steady.{constant_written}
use Rattle.note_check.proofs.constants.+is_constant.Goals as goal

pub returns-in-All : goal.returns-in-All
returns-in-All t c =
    c.is_constant.ensures
    ∙ ap (λ x. is_constant (expr_of x)) c.deref.ensures
    ∙ sym (constant_written c.in-All.field-0 c.in-All.field-1 (expr_of c.in-All.a.value))
    ∙ sym (ap (λ x. is_constant (expr_of x)) c.in-All.is)
