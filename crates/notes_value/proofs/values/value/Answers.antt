use Rattle.std.proofs.Common.{◌∙◌}
use Rattle.word_spec.specs.Memory as memory
use Rattle.notes_value.proofs.WrittenOut.{put_zero}
use Rattle.notes_value.specs.Views.{expr_of}
use Rattle.notes_value.proofs.values.value.Goals as goal

pub returns : goal.returns
returns g c = c.value_with.ensures ∙ put_zero (memory.endian c.args.big) (expr_of c.args.expr.now) (g.V.View.view c.args.now.now) (g.V.View.view c.args.old.now)
