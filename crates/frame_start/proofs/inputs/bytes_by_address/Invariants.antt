use Rattle.std.proofs.Common.{◌≡◌, ℕ, ◌<◌, length, get_or}
use Rattle.clause_spec.specs.Clauses.{valuation}
use Rattle.frame_start.specs.Inputs.{byte_by, read_of}
use Rattle.frame_start.proofs.inputs.bytes_by_address.Given as goal

abbrev pub invariant-loop-address : goal.invariant-loop-address
invariant-loop-address l = record {
  len : length l.bytes.items ≡ l.address;
  each : (j : ℕ) → j < l.address → get_or l.bytes.items j 0 ≡ byte_by l.places (valuation l.values) (read_of l.places l.part j);
}
