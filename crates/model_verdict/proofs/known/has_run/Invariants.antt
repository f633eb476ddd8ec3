use Rattle.std.proofs.Common.{◌-◌, length}
use Rattle.model_verdict.proofs.KnownRuns.{HasTo}
use Rattle.model_verdict.proofs.known.has_run.Given as goal

abbrev pub invariant-loop-next : goal.invariant-loop-next
invariant-loop-next l = HasTo l.fill l.bytes l.run l.from l.next

abbrev pub decreases-loop-next : goal.decreases-loop-next
decreases-loop-next l = length l.bytes - l.next
