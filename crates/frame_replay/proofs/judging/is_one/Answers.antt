use Rattle.std.proofs.Common.{ℕ, arith, rules}
use Rattle.std.specs.Prelude.{nat_lt}
use Rattle.std.proofs.lemmas.List.Sorted.{IsPartitionPoint-from_clause, IsPartitionedBy-ltb}
use Rattle.std.proofs.lemmas.Bool.{ltb-true, ltb-false}
use Rattle.table_run.proofs.RisingLines.{not_falling, none_from, line_there}
use Rattle.frame_replay.proofs.judging.is_one.Goals as goal

pub returns-then-i-rising : goal.returns-then-i-rising
returns-then-i-rising c =
    let point = IsPartitionPoint-from_clause (λ (x : ℕ). nat_lt x c.args.number) _ _ c.partition_point-i.ensures.partitioned
    (IsPartitionedBy-ltb (λ (x : ℕ). x) c.args.rising.now c.args.number (not_falling c.args.rising.now c.requires)) (λ a r q k. search rules) in
    none_from c.args.rising.now c.args.number c.partition_point-i.result (λ k d low high. ltb-true _ _ (point.0 k d low high))
    (λ k d low high. ltb-false _ _ (point.1 k d low high)) c.if-i-rising.true

pub returns : goal.returns
returns c =
    let within = c.partition_point-i.ensures.bound in
    let other = c.if-i-rising.false in
    let point = IsPartitionPoint-from_clause (λ (x : ℕ). nat_lt x c.args.number) _ _ c.partition_point-i.ensures.partitioned
    (IsPartitionedBy-ltb (λ (x : ℕ). x) c.args.rising.now c.args.number (not_falling c.args.rising.now c.requires)) (λ a r q k. search rules) in
    line_there c.args.rising.now c.args.number c.partition_point-i.result (λ k d low high. ltb-true _ _ (point.0 k d low high))
    (λ k d low high. ltb-false _ _ (point.1 k d low high)) c.requires _ (omega arith)
