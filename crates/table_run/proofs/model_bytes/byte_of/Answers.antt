use Rattle.std.proofs.Common.{ℕ, ◌<◌, length, sym, rules, arith}
use Rattle.std.specs.Prelude.{nat_lt}
use Rattle.std.proofs.lemmas.List.Sorted.{IsPartitionPoint-from_clause, IsPartitionedBy-ltb}
use Rattle.table_run.proofs.BytesOver.{over_behind, over_beside, over_here, rising_by}
use Rattle.table_run.proofs.model_bytes.byte_of.Goals as goal

pub returns-then-i-model : goal.returns-then-i-model
returns-then-i-model c =
    let point =
    IsPartitionPoint-from_clause (λ (x : ℕ × ℕ). nat_lt x.0 c.args.a) _ _ c.partition_point-i.ensures.partitioned
    (IsPartitionedBy-ltb (λ (x : ℕ × ℕ). x.0) c.args.model.now.bytes.now c.args.a (rising_by c.args.model.now.bytes.now c.requires))
    (λ a r q k. search rules) in
    sym (over_behind c.args.model.now.fill c.args.model.now.bytes.now c.partition_point-i.result c.args.a c.requires point c.if-i-model.true)

pub returns-then-model-i : goal.returns-then-model-i
returns-then-model-i c =
    let inside : c.partition_point-i.result < length c.args.model.now.bytes.now = omega arith in
    let point =
    IsPartitionPoint-from_clause (λ (x : ℕ × ℕ). nat_lt x.0 c.args.a) _ _ c.partition_point-i.ensures.partitioned
    (IsPartitionedBy-ltb (λ (x : ℕ × ℕ). x.0) c.args.model.now.bytes.now c.args.a (rising_by c.args.model.now.bytes.now c.requires))
    (λ a r q k. search rules) in
    sym (over_beside c.args.model.now.fill c.args.model.now.bytes.now c.partition_point-i.result c.args.a c.requires point (0, 0) inside c.if-model-i.true)

pub returns : goal.returns
returns c =
    let inside : c.partition_point-i.result < length c.args.model.now.bytes.now = omega arith in
    let point =
    IsPartitionPoint-from_clause (λ (x : ℕ × ℕ). nat_lt x.0 c.args.a) _ _ c.partition_point-i.ensures.partitioned
    (IsPartitionedBy-ltb (λ (x : ℕ × ℕ). x.0) c.args.model.now.bytes.now c.args.a (rising_by c.args.model.now.bytes.now c.requires))
    (λ a r q k. search rules) in
    sym (over_here c.args.model.now.fill c.args.model.now.bytes.now c.partition_point-i.result c.args.a c.requires point (0, 0) inside c.if-model-i.false)
