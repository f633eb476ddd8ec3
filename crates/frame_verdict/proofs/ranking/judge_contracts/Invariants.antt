use Rattle.frame_verdict.specs.FrameFunctions.{whole_of_framed}
use Rattle.frame_verdict.specs.JudgedFrames.{ArePassedTo}
use Rattle.frame_verdict.proofs.ranking.judge_contracts.Given as goal

abbrev pub invariant-loop-rank : goal.invariant-loop-rank
invariant-loop-rank g l =
    ArePassedTo (whole_of_framed l.framed) g.M.Machine.form l.budget.unroll l.rank l.passed.items
