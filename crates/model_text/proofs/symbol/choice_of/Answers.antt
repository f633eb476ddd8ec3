use Rattle.std.proofs.Common.{◌∙◌, sym}
use Rattle.start_value.specs.Starts.{layout_of}
use Rattle.model_text.specs.Symbols.{choice_number}
use Rattle.model_text.proofs.SymbolNames.{no_choice_at}
use Rattle.model_text.proofs.symbol.choice_of.Goals as goal

pub returns-in_err-number : goal.returns-in_err-number
returns-in_err-number c = c.from_residual.ensures ∙ sym (no_choice_at (layout_of c.args.layout) c.args.drawn.now (choice_number c.args.name.now) (sym
    c.in_err-number.ensures.value))
