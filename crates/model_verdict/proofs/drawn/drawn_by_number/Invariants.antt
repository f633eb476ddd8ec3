use Rattle.model_verdict.proofs.Numbers.{HasDrawn}
use Rattle.model_verdict.proofs.drawn.drawn_by_number.Given as goal

abbrev pub invariant-loop-place : goal.invariant-loop-place
invariant-loop-place l = HasDrawn l.unrolled l.numbers l.place l.drawn.items
