use Rattle.std.proofs.Common.{◌++◌, ap, ◌∙◌}
use Rattle.word_spec.specs.Memory as memory
use Rattle.notes_value.proofs.ReadPlaces.{reads_zero}
use Rattle.notes_value.specs.Views.{expr_of}
use Rattle.notes_value.proofs.places.add_reads.Goals as goal

pub returns : goal.returns
returns g c =
    c.in_ok-add_reads_with.ensures
    ∙ ap (λ z. c.args.places.now.items ++ z)
    (reads_zero (memory.endian c.args.big) (expr_of c.args.expr.now) (g.V.View.view c.args.now.now) (g.V.View.view c.args.old.now))
