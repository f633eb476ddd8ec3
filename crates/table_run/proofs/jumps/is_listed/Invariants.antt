use Rattle.std.proofs.Common.{◌≡◌, ℕ, ◌≤◌, ◌<◌, get_or, false}
use Rattle.std.specs.Prelude.{nat_eq}
use Rattle.std.specs.List.{list_any}
use Rattle.notes_value.specs.declared.notes.Targets.{Targets}
use Rattle.table_run.proofs.jumps.is_listed.Given as goal

abbrev pub invariant-loop-i : goal.invariant-loop-i
invariant-loop-i l =
    (j : ℕ) (d : ℕ × ℕ) (e : Targets) → l.low ≤ j → j < l.i → list_any (nat_eq l.to) (get_or l.targets (get_or l.index j d).1 e).to.items ≡ false
