use Rattle.std.proofs.Common.{ℕ, ◌<◌, ◌≤◌, ◌^◌}
use Rattle.weakest_pre.specs.Copies.{AreWithin, root_at}
use Rattle.weakest_pre.proofs.copies.bound_of.Given as goal

abbrev pub invariant-loop-k : goal.invariant-loop-k
invariant-loop-k l = ((i : ℕ) → i < l.k → root_at l.roots i < l.bound) × (l.bound ≤ 2 ^ 32) × ((n : ℕ) → AreWithin l.roots n → l.bound ≤ n)
