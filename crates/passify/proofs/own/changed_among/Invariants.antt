use Rattle.std.proofs.Common.{◌+◌, ◌*◌}
use Rattle.term_names.specs.Choices.{places}
use Rattle.passify.specs.Bits.{Makes}
use Rattle.passify.specs.Changes.{TellsAmong}
use Rattle.passify.proofs.own.changed_among.Given as goal

abbrev pub invariant-loop-i : goal.invariant-loop-i
invariant-loop-i l =
    Makes l.fn.dag l.dag ((l.width + 1) * l.i) (4 * l.i) 1 l.some.0
    (TellsAmong l.fn.dag l.dag l.set l.first (places l.entry) (places l.next) l.i l.fn.before.0 l.some.0)
