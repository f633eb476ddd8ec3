use Rattle.std.proofs.Common.{◌≡◌, take}
use Rattle.std.specs.Prelude.{nat_eq, false}
use Rattle.std.specs.List.{list_any}
use Rattle.note_check.proofs.reached.is_among.Given as goal

abbrev pub invariant-loop-other : goal.invariant-loop-other
invariant-loop-other l = list_any (nat_eq l.line) (take l.other-index l.lines) ≡ false
