use Rattle.std.proofs.Common.{◌≡◌, take}
use Rattle.std.specs.Prelude.{map, sum_by}
use Rattle.known_bytes.specs.Runs.{run_of}
use Rattle.unroller.specs.LineCosts.{capped}
use Rattle.unroller.proofs.prices.known_count.Given as goal

abbrev pub invariant-loop-run : goal.invariant-loop-run
invariant-loop-run l = l.count ≡ capped (sum_by (λ r. r.count) (map run_of (take l.run-index l.known)))
