use Rattle.std.proofs.Common.{ℕ, rules}
use Rattle.std.specs.Prelude.{nat_le}
use Rattle.std.proofs.lemmas.List.Sorted.{IsPartitionPoint-from_clause, IsPartitionedBy-leb}
use Rattle.std.proofs.lemmas.Bool.{leb-true, leb-false}
use Rattle.flag_live.proofs.walk.first_above.Goals as goal

pub returns-clause-before : goal.returns-clause-before
returns-clause-before c k d low high =
    let point = IsPartitionPoint-from_clause (λ (x : ℕ × ℕ). nat_le x.0 c.args.vertex) _ _ c.partition_point.ensures.partitioned (IsPartitionedBy-leb
    (λ (x : ℕ × ℕ). x.0) c.args.edges.now c.args.vertex c.requires) (λ a r q k. search rules) in
    leb-true _ _ (point.0 k d low high)

pub returns-clause-behind : goal.returns-clause-behind
returns-clause-behind c k d low high =
    let point = IsPartitionPoint-from_clause (λ (x : ℕ × ℕ). nat_le x.0 c.args.vertex) _ _ c.partition_point.ensures.partitioned (IsPartitionedBy-leb
    (λ (x : ℕ × ℕ). x.0) c.args.edges.now c.args.vertex c.requires) (λ a r q k. search rules) in
    leb-false _ _ (point.1 k d low high)
