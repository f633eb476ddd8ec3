use Rattle.bil_terms.proofs.Locals.{IsBefore}
use Rattle.bil_terms.proofs.variables.local_term.Given as goal

abbrev pub invariant-loop-i : goal.invariant-loop-i
invariant-loop-i l = IsBefore l.dag l.names l.locals l.local.number l.local.width.bits l.i

abbrev pub decreases-loop-i : goal.decreases-loop-i
decreases-loop-i l = l.i
