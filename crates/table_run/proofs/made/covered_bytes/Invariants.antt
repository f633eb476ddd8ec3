use Rattle.std.proofs.Common.{◌≡◌, ℕ, drop, ◌++◌}
use Rattle.std.specs.Prelude.{filter, nat_eq}
use Rattle.std.specs.List.{list_any}
use Rattle.table_run.specs.Spans.{bytes_of}
use Rattle.table_run.proofs.made.covered_bytes.Given as goal

abbrev pub invariant-loop-at : goal.invariant-loop-at
invariant-loop-at l =
    l.out.items ++ filter (λ (b : ℕ × ℕ). list_any (nat_eq b.0) (bytes_of l.spans)) (drop l.at-index l.bytes)
    ≡ filter (λ (b : ℕ × ℕ). list_any (nat_eq b.0) (bytes_of l.spans)) l.bytes
