use Rattle.std.proofs.Common.{◌+◌, ◌*◌, length, take}
use Rattle.passify.specs.Bits.{Makes}
use Rattle.passify.specs.Spans.{bytes_of}
use Rattle.passify.proofs.Outside.{OutsideOf}
use Rattle.passify.proofs.writing.outside.Given as goal

abbrev pub invariant-loop-i : goal.invariant-loop-i
invariant-loop-i l =
    Makes l.fn.dag l.dag (l.i + 162 * (length l.own * bytes_of (take l.i l.spans))) (2 * l.i + 12 * (length l.own * bytes_of (take l.i l.spans))) 1 l.some.0
    (OutsideOf l.fn.dag l.dag l.fn.before.0 (take l.i l.spans) l.own l.some.0)
