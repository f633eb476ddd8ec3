use Rattle.std.proofs.Common.{take}
use Rattle.weakest_pre.specs.Entry.{said}
use Rattle.weakest_pre.specs.Known.{AreNoted}
use Rattle.weakest_pre.proofs.facts.note_all.Given as goal

abbrev pub invariant-loop-each : goal.invariant-loop-each
invariant-loop-each l = AreNoted l.fn.registers l.registers (said (take l.each-index l.lines))
