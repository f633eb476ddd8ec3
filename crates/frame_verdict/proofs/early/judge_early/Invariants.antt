use Rattle.std.specs.Prelude.{◌-◌, ◌≤◌}
use Rattle.frame_verdict.proofs.early.judge_early.Given as goal

abbrev pub invariant-loop-turns : goal.invariant-loop-turns
invariant-loop-turns g l = (1 ≤ l.turns) × (l.most ≤ l.fn.budget.unroll)

abbrev pub decreases-loop-turns : goal.decreases-loop-turns
decreases-loop-turns g l = l.most - l.turns
