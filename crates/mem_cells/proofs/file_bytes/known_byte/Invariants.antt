use Rattle.std.proofs.Common.{◌≡◌, map, drop}
use Rattle.walk_spec.specs.Unrolled.{byte_of_runs}
use Rattle.known_bytes.specs.Runs.{run_of}
use Rattle.mem_cells.proofs.file_bytes.known_byte.Given as goal

abbrev pub invariant-loop-place : goal.invariant-loop-place
invariant-loop-place l = byte_of_runs (map run_of (drop l.place l.known)) l.at ≡ byte_of_runs (map run_of (drop l.from l.known)) l.at
