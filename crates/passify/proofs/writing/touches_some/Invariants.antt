use Rattle.std.proofs.Common.{◌*◌, map, take}
use Rattle.question_form.specs.Views.{kept_of}
use Rattle.passify.specs.Bits.{Makes}
use Rattle.passify.proofs.Writes.{Touches}
use Rattle.passify.proofs.writing.touches_some.Given as goal

abbrev pub invariant-loop-i : goal.invariant-loop-i
invariant-loop-i l = Makes l.fn.dag l.dag (98 * l.i) (10 * l.i) 1 l.some.0
    (Touches l.fn.dag l.dag l.stored (map kept_of (take l.i l.kept)) l.fn.before.0 l.some.0)
