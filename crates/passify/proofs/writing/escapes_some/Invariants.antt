use Rattle.std.proofs.Common.{◌+◌, ◌*◌, length}
use Rattle.passify.specs.Bits.{Makes}
use Rattle.passify.proofs.Outside.{EscapesFirst}
use Rattle.passify.proofs.writing.escapes_some.Given as goal

abbrev pub invariant-loop-number : goal.invariant-loop-number
invariant-loop-number l =
    Makes l.fn.dag l.dag ((65 + 97 * length l.own) * l.number) ((5 + 7 * length l.own) * l.number) 1 l.some.0
    (EscapesFirst l.fn.dag l.dag l.stored l.fn.before.0 l.own l.number l.some.0)
