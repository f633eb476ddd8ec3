use Rattle.std.proofs.Common.{◌≡◌, ℕ, ◌≤◌, map, drop}
use Rattle.walk_spec.specs.Unrolled.{byte_of_runs}
use Rattle.known_bytes.specs.Runs.{run_of}
use Rattle.mem_cells.proofs.file_bytes.passed.Given as goal

abbrev pub invariant-loop-place : goal.invariant-loop-place
invariant-loop-place l = (a : ℕ) → l.at ≤ a → byte_of_runs (map run_of (drop l.place l.known)) a ≡ byte_of_runs (map run_of (drop l.from l.known)) a
