use Rattle.std.proofs.Common.{string_bytes, ap, sym, ◌∙◌, ◌∷◌, []}
use Rattle.smtlib_print.proofs.Choices.{chosen, choice_added}
use Rattle.smtlib_print.proofs.Printed.{on_text}
use Rattle.smtlib_print.proofs.declarations.declare_choice.Goals as goal

pub returns : goal.returns
returns c =
    on_text c.write.result (string_bytes c.write.new.self) (string_bytes c.args.out.now) _ _
    (choice_added c.args.number ∙ ap (λ d. chosen (c.args.number ∷ []) (d ∷ [])) (sym c.if-not-drawn.false)) c.write.ensures.bytes
