use Rattle.std.proofs.Common.{◌≡◌, ℕ, None, take, nat_eq, if◌then◌else◌}
use Rattle.std.specs.List.{list_any}
use Rattle.refutation_checker.specs.Entries.{look_up, ids_of}
use Rattle.refutation_checker.proofs.entries.delete.Given as goal

abbrev pub invariant-loop-id : goal.invariant-loop-id
invariant-loop-id l = record {
  looks : (i : ℕ) → look_up l.entries i ≡ (if list_any (nat_eq i) (take l.id-index l.ids) then None else look_up l.fn.entries i);
  same_ids : ids_of l.entries ≡ ids_of l.fn.entries;
}
