use Rattle.std.proofs.Common.{◌≡◌, ℕ, ◌≤◌, ◌<◌, get_or, false}
use Rattle.std.specs.Prelude.{nat_eq}
use Rattle.std.specs.List.{list_any}
use Rattle.notes_value.specs.declared.notes.Assert.{Assert}
use Rattle.table_run.proofs.cuts.has_invariant.Given as goal

abbrev pub invariant-loop-i : goal.invariant-loop-i
invariant-loop-i l =
    (j : ℕ) (d : ℕ × ℕ) (e : Assert) → l.low ≤ j → j < l.i
    → list_any (nat_eq (get_or l.asserts (get_or l.index j d).1 e).line) l.invariants ≡ false
