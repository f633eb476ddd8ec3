use Rattle.std.proofs.Common.{ℕ, rules}
use Rattle.std.specs.Prelude.{nat_lt}
use Rattle.std.proofs.lemmas.List.Sorted.{IsPartitionPoint-from_clause, IsPartitionedBy-ltb}
use Rattle.std.proofs.lemmas.Bool.{ltb-true, ltb-false}
use Rattle.model_verdict.proofs.Bytes.{never_falls}
use Rattle.model_verdict.proofs.known.first_from.Goals as goal

pub returns-clause-below : goal.returns-clause-below
returns-clause-below c k d low high =
    let point = IsPartitionPoint-from_clause (λ (x : ℕ × ℕ). nat_lt x.0 c.args.address) _ _ c.partition_point.ensures.partitioned (IsPartitionedBy-ltb
    (λ (x : ℕ × ℕ). x.0) c.args.bytes.now c.args.address (never_falls c.args.bytes.now c.requires)) (λ a r q k. search rules) in
    ltb-true _ _ (point.0 k d low high)

pub returns-clause-from : goal.returns-clause-from
returns-clause-from c k d low high =
    let point = IsPartitionPoint-from_clause (λ (x : ℕ × ℕ). nat_lt x.0 c.args.address) _ _ c.partition_point.ensures.partitioned (IsPartitionedBy-ltb
    (λ (x : ℕ × ℕ). x.0) c.args.bytes.now c.args.address (never_falls c.args.bytes.now c.requires)) (λ a r q k. search rules) in
    ltb-false _ _ (point.1 k d low high)
