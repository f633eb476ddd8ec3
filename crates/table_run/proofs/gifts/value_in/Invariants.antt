use Rattle.std.proofs.Common.{◌≡◌, ◌-◌, ◌≤◌, drop}
use Rattle.table_run.specs.CalledFrames.{value_from}
use Rattle.table_run.proofs.gifts.value_in.Given as goal

abbrev pub invariant-loop-n : goal.invariant-loop-n
invariant-loop-n l = record {
  few : l.i ≤ l.n;
  value : value_from l.set (drop l.i l.values) l.register l.n (32 - l.n) ≡ value_from l.set l.values l.register 0 32;
}
