use Rattle.frame_verdict.specs.FrameFunctions.{whole_of_framed}
use Rattle.frame_verdict.specs.FrameMeasures.{AreMeasured, AreUnrolledTo}
use Rattle.frame_verdict.proofs.measuring.measure_contracts.Given as goal

abbrev pub invariant-loop-rank : goal.invariant-loop-rank
invariant-loop-rank g l =
    AreUnrolledTo (whole_of_framed l.framed) l.budget.unroll l.rank g.M.Machine.form l.frames.items
    × AreMeasured (whole_of_framed l.framed) l.budget.unroll l.budget.points l.rank l.left
