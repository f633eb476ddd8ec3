use Rattle.std.proofs.Common.{◌∙◌}
use Rattle.word_spec.specs.Memory as memory
use Rattle.notes_value.specs.Views.{expr_of}
use Rattle.value_steps.proofs.FirstFalse.{shown_zero}
use Rattle.value_steps.proofs.SameValue.{shown_value}
use Rattle.value_steps.proofs.instances.instance.Goals as goal

pub returns-clause-shown : goal.returns-clause-shown
returns-clause-shown g c =
    c.in_ok-shown.ensures.shown
    ∙ shown_zero (memory.endian c.args.big) (g.V.View.view c.args.now.now) (g.V.View.view c.args.old.now) (expr_of c.args.expr.now)

pub returns-clause-value : goal.returns-clause-value
returns-clause-value g c =
    shown_value (memory.endian c.args.big) c.args.expr.now (expr_of c.in_ok-shown.shown) (g.V.View.view c.args.now.now) (g.V.View.view c.args.old.now)
    c.in_ok-shown.ensures.shown
