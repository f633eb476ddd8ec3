use Rattle.std.proofs.Common.{◌≡◌, ℕ, ◌<◌, ◌≤◌, map, take, drop, length}
use Rattle.std.specs.Prelude.{slice_index, Contains}
use Rattle.walk_spec.specs.Unrolled.{byte_of_runs}
use Rattle.known_bytes.specs.Runs.{run_of}
use Rattle.mem_cells.specs.Asked.{head_asks, AreFileBytes}
use Rattle.mem_cells.proofs.FileBytes.{hits, is_known}
use Rattle.mem_cells.proofs.file_bytes.bytes_at.Given as goal

abbrev pub invariant-loop-at : goal.invariant-loop-at
invariant-loop-at l = record {
  within : l.from ≤ length l.known;
  same : (a : ℕ) → l.at-index < length l.asked → slice_index l.asked l.at-index ≤ a →
      byte_of_runs (map run_of (drop l.from l.known)) a ≡ byte_of_runs (map run_of l.known) a;
  are : AreFileBytes (map run_of l.known) (Contains (take l.at-index l.asked)) (head_asks l.of_heads l.kept) l.bytes.items;
  count : length l.bytes.items ≡ hits (is_known (map run_of l.known)) (take l.at-index l.asked);
}
