use Rattle.std.specs.Prelude.{◌≡◌}
use Rattle.term_spec.specs.ClauseForm.{drawn_below}
use Rattle.question_form.specs.Views.{unrolled_of}
use Rattle.bit_blast.proofs.laying.drawing_points.Given as goal

abbrev pub invariant-loop-i : goal.invariant-loop-i
invariant-loop-i l = l.count ≡ drawn_below (unrolled_of l.unrolled) l.i
