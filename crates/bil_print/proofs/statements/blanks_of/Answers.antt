use Rattle.std.proofs.Common.{add-one, ap, sym, ◌∙◌, [], ◌∷◌, ◌++◌}
use Rattle.machine_spec.specs.BilText.{indent}
use Rattle.bil_print.proofs.Lines.{deeper}
use Rattle.bil_print.proofs.statements.blanks_of.Goals as goal

pub loop-preserved : goal.loop-preserved
loop-preserved c =
    c.in_ok-push_str.ensures.bytes ∙ ap (λ z. z ++ 32 ∷ 32 ∷ []) c.loop.invariant ∙ deeper c.loop.counter ∙ ap indent (sym (add-one c.loop.counter))
