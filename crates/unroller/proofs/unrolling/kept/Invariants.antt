use Rattle.std.proofs.Common.{ℕ, ◌<◌, ◌^◌, get_or}
use Rattle.unroller.proofs.unrolling.kept.Given as goal

abbrev pub invariant-loop-first : goal.invariant-loop-first
invariant-loop-first l = (i : ℕ) → i < l.first-index → ((get_or l.runs i (0, 0)).0 < 2 ^ 32) × ((get_or l.runs i (0, 0)).1 < 2 ^ 32)
