use Rattle.std.proofs.Common.{◌≡◌, ◌≤◌, ◌++◌, drop, length, map}
use Rattle.std.specs.Prelude.{filter}
use Rattle.unroller.specs.Keys.{address_of, is_of}
use Rattle.unroller.proofs.keys.addresses.Given as goal

abbrev pub invariant-loop-key : goal.invariant-loop-key
invariant-loop-key l = record {
  found :
      l.found.items ++ map address_of (filter (is_of l.contract) (drop l.key-index l.keys)) ≡ map address_of (filter (is_of l.contract) l.keys);
  few : length l.found.items ≤ l.key-index;
}
