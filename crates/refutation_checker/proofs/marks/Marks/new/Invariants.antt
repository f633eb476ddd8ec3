use Rattle.std.proofs.Common.{◌≡◌, ℕ, ◌≤◌, take, get_or, vec_len, vec_capacity}
use Rattle.clause_spec.specs.Refutation.{at_start}
use Rattle.refutation_checker.specs.Entries.{look_up, ids_of, IsRising}
use Rattle.refutation_checker.proofs.marks.Marks.new.Given as goal

abbrev pub invariant-loop-i : goal.invariant-loop-i
invariant-loop-i l = record {
  looks : (k : ℕ) → look_up l.entries.items k ≡ at_start (take l.i l.cnf.clauses.items) k;
  rising : IsRising (ids_of l.entries.items);
  highest : (k : ℕ) → get_or (ids_of l.entries.items) k 0 ≤ l.i;
  len : vec_len l.entries ≡ l.i;
  room : l.room ≤ vec_capacity l.entries;
}
