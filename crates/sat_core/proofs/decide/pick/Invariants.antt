use Rattle.std.proofs.Common.{◌≢◌, ℕ, ◌<◌, ◌≤◌, None, length, get_or}
use Rattle.sat_core.proofs.decide.pick.Given as goal

abbrev pub invariant-loop-v : goal.invariant-loop-v
invariant-loop-v l = (k : ℕ) → l.v ≤ k → k < length l.table → get_or l.table k None ≢ None
