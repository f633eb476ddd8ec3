use Rattle.question_form.specs.Views.{unrolled_of}
use Rattle.bit_blast.specs.Laid.{AreDrawn}
use Rattle.bit_blast.proofs.laying.choices_of.Given as goal

abbrev pub invariant-loop-i : goal.invariant-loop-i
invariant-loop-i l = AreDrawn (unrolled_of l.unrolled) l.i l.drawn.items l.count
