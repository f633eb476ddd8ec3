use Rattle.std.proofs.Common.{length, ◌-◌, ◌≢◌, ◌<◌, ◌≤◌, ℕ, get_or}
use Rattle.framed_notes.proofs.lines.line_end.Given as goal

-- no LF so far
abbrev pub invariant-loop-end : goal.invariant-loop-end
invariant-loop-end l = record { within : l.end ≤ length l.text; none_before : (k : ℕ) → k < l.end → get_or l.text k 0 ≢ 10 }

abbrev pub decreases-loop-end : goal.decreases-loop-end
decreases-loop-end l = length l.text - l.end
