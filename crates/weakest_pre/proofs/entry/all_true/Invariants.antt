use Rattle.std.proofs.Common.{take}
use Rattle.weakest_pre.specs.Entry.{AreTrue, said}
use Rattle.weakest_pre.proofs.entry.all_true.Given as goal

abbrev pub invariant-loop-each : goal.invariant-loop-each
invariant-loop-each l = AreTrue l.fn.dag l.dag l.fn.big l.now l.entry l.fn.first.0 (said (take l.each-index l.lines)) l.all.0
