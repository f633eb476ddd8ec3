use Rattle.std.proofs.Common.{ℕ, rules}
use Rattle.std.specs.Prelude.{nat_lt}
use Rattle.std.proofs.lemmas.List.Sorted.{IsPartitionPoint-from_clause, IsPartitionedBy-ltb}
use Rattle.std.proofs.lemmas.Bool.{ltb-true, ltb-false}
use Rattle.notes_index.proofs.index.first_from.Goals as goal

pub returns-clause-before : goal.returns-clause-before
returns-clause-before c k d low high =
    let point = IsPartitionPoint-from_clause (λ (x : ℕ × ℕ). nat_lt x.0 c.args.at) _ _ c.partition_point.ensures.partitioned (IsPartitionedBy-ltb (λ (x : ℕ ×
    ℕ). x.0) c.args.index.now c.args.at c.requires) (λ a r q k. search rules) in
    ltb-true _ _ (point.0 k d low high)

pub returns-clause-behind : goal.returns-clause-behind
returns-clause-behind c k d low high =
    let point = IsPartitionPoint-from_clause (λ (x : ℕ × ℕ). nat_lt x.0 c.args.at) _ _ c.partition_point.ensures.partitioned (IsPartitionedBy-ltb (λ (x : ℕ ×
    ℕ). x.0) c.args.index.now c.args.at c.requires) (λ a r q k. search rules) in
    ltb-false _ _ (point.1 k d low high)
