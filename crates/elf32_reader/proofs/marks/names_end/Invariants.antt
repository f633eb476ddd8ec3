use Rattle.std.proofs.Common.{ℕ, ◌≢◌, ◌<◌, ◌≤◌, ◌+◌, get_or}
use Rattle.elf32_reader.proofs.marks.names_end.Given as goal

abbrev pub invariant-loop-end : goal.invariant-loop-end
invariant-loop-end l = (l.end ≤ l.size) × ((j : ℕ) → l.end ≤ j → j < l.size → get_or l.file (l.offset + j) 0 ≢ 0)

abbrev pub decreases-loop-end : goal.decreases-loop-end
decreases-loop-end l = l.end
