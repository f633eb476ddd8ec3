use Rattle.std.proofs.Common.{length}
use Rattle.cdcl_engine.proofs.trying.Trying.+halve.Given as goal

abbrev pub decreases-halve : goal.decreases-halve
decreases-halve l = length l.lits.now
