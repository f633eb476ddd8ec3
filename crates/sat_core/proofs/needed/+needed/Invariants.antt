use Rattle.std.proofs.Common.{length, ◌+◌, ◌*◌}
use Rattle.sat_core.proofs.needed.+needed.Given as goal

abbrev pub decreases-are_needed : goal.decreases-are_needed
decreases-are_needed l = 2 * length l.lits.now

abbrev pub decreases-are_needed_where : goal.decreases-are_needed_where
decreases-are_needed_where l = 2 * length l.lits.now + 1
