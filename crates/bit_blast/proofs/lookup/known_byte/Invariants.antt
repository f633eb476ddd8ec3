use Rattle.std.proofs.Common.{◌≡◌, drop, map}
use Rattle.walk_spec.specs.Unrolled.{byte_of_runs}
use Rattle.known_bytes.specs.Runs.{run_of}
use Rattle.bit_blast.proofs.lookup.known_byte.Given as goal

abbrev pub invariant-loop-i : goal.invariant-loop-i
invariant-loop-i l = byte_of_runs (map run_of l.runs) l.address ≡ byte_of_runs (map run_of (drop l.i l.runs)) l.address
