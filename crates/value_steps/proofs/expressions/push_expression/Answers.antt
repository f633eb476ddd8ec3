use Rattle.std.proofs.Common.{◌++◌, ap, ◌∙◌}
use Rattle.notes_value.specs.Views.{expr_of}
use Rattle.value_steps.specs.Called.{names_of}
use Rattle.value_steps.proofs.Texts.{text_zero}
use Rattle.value_steps.proofs.expressions.push_expression.Goals as goal

pub returns : goal.returns
returns c = c.in_ok-push_at.ensures ∙ ap (λ z. c.args.out.now.items ++ z) (text_zero (names_of c.args.layout) 1 (expr_of c.args.expr.now))
