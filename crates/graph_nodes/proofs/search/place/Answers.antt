use Rattle.std.proofs.Common.{ℕ, ap, arith, rules, Some}
use Rattle.std.specs.Prelude.{nat_lt}
use Rattle.std.proofs.lemmas.List.Sorted.{IsPartitionPoint-from_clause, IsPartitionedBy-ltb}
use Rattle.std.proofs.lemmas.Bool.{ltb-true, ltb-false}
use Rattle.graph_nodes.specs.declared.nodes.Node.{Node}
use Rattle.graph_nodes.proofs.Places.{not_falling, place_is, other_place}
use Rattle.graph_nodes.proofs.search.place.Goals as goal

pub returns-then-i-nodes-clause-only : goal.returns-then-i-nodes-clause-only
returns-then-i-nodes-clause-only c rising j place =
    let point = IsPartitionPoint-from_clause (λ (n : Node). nat_lt n.at c.args.at) _ _ c.partition_point-i.ensures.partitioned (IsPartitionedBy-ltb
    (λ (n : Node). n.at) c.args.nodes.now c.args.at (not_falling c.args.nodes.now rising)) (λ a r q k. search rules) in
    let e = place_is c.args.nodes.now c.args.at c.partition_point-i.result (λ k d low high. ltb-true _ _ (point.0 k d low high))
    (λ k d low high. ltb-false _ _ (point.1 k d low high)) rising j place in
    let w = place.within in
    absurd (omega arith)

pub returns-then-nodes-i-clause-only : goal.returns-then-nodes-i-clause-only
returns-then-nodes-i-clause-only c rising j place =
    let point = IsPartitionPoint-from_clause (λ (n : Node). nat_lt n.at c.args.at) _ _ c.partition_point-i.ensures.partitioned (IsPartitionedBy-ltb
    (λ (n : Node). n.at) c.args.nodes.now c.args.at (not_falling c.args.nodes.now rising)) (λ a r q k. search rules) in
    let e = place_is c.args.nodes.now c.args.at c.partition_point-i.result (λ k d low high. ltb-true _ _ (point.0 k d low high))
    (λ k d low high. ltb-false _ _ (point.1 k d low high)) rising j place in
    absurd (other_place c.args.nodes.now c.args.at c.partition_point-i.result j c.index-nodes-i.result c.index-nodes-i.is e place c.if-nodes-i.true)

pub returns-clause-only : goal.returns-clause-only
returns-clause-only c rising j place =
    let point = IsPartitionPoint-from_clause (λ (n : Node). nat_lt n.at c.args.at) _ _ c.partition_point-i.ensures.partitioned (IsPartitionedBy-ltb
    (λ (n : Node). n.at) c.args.nodes.now c.args.at (not_falling c.args.nodes.now rising)) (λ a r q k. search rules) in
    ap (λ (k : ℕ). Some k) (place_is c.args.nodes.now c.args.at c.partition_point-i.result (λ k d low high. ltb-true _ _ (point.0 k d low high))
    (λ k d low high. ltb-false _ _ (point.1 k d low high)) rising j place)
