use Rattle.std.proofs.Common.{◌*◌, take}
use Rattle.passify.specs.Bits.{Makes}
use Rattle.passify.specs.Spans.{IsAway}
use Rattle.passify.proofs.writing.away.Given as goal

abbrev pub invariant-loop-i : goal.invariant-loop-i
invariant-loop-i l = Makes l.fn.dag l.dag (97 * l.i) (7 * l.i) 1 l.left.0 (IsAway l.fn.dag l.dag l.at.0 l.fn.rest.0 (take l.i l.own) l.left.0)
