use Rattle.std.proofs.Common.{arith, rules}
use Rattle.std.specs.Prelude.{nat_lt}
use Rattle.std.proofs.lemmas.Bool.Decides.{nat_tests}
use Rattle.std.proofs.lemmas.List.Sorted.{IsPartitionPoint-from_clause, IsPartitionedBy-ltb}
use Rattle.known_bytes.specs.declared.listing.Known.{Known}
use Rattle.asked_bytes.proofs.Runs.{ends_rise, none, outside, within_run}
use Rattle.asked_bytes.proofs.blocks.is_known.Goals as goal

pub returns-then-known-at-clause-known : goal.returns-then-known-at-clause-known
returns-then-known-at-clause-known c is =
    within_run c.args.known.now c.partition_point-at.result c.args.address none c.if-at-known.false c.if-known-at.true (grind (arith, nat_tests))

pub returns-then-at-known-clause-unknown : goal.returns-then-at-known-clause-unknown
returns-then-at-known-clause-unknown c runs is =
    let known = c.args.known.now in
    let point = IsPartitionPoint-from_clause (λ (r : Known). nat_lt r.last c.args.address) _ _ c.partition_point-at.ensures.partitioned
    (IsPartitionedBy-ltb (λ (r : Known). r.last) known c.args.address (ends_rise known runs)) (λ a r q k. search rules) in
    outside known runs c.partition_point-at.result c.args.address point (λ within low high. let at = c.if-at-known.true in omega (arith, at, within))

pub returns-then-known-at-clause-unknown : goal.returns-then-known-at-clause-unknown
returns-then-known-at-clause-unknown c runs is =
    let known = c.args.known.now in
    let point = IsPartitionPoint-from_clause (λ (r : Known). nat_lt r.last c.args.address) _ _ c.partition_point-at.ensures.partitioned
    (IsPartitionedBy-ltb (λ (r : Known). r.last) known c.args.address (ends_rise known runs)) (λ a r q k. search rules) in
    outside known runs c.partition_point-at.result c.args.address point (λ within low high. grind (arith, nat_tests, is, high))

pub returns-else-known-at-clause-unknown : goal.returns-else-known-at-clause-unknown
returns-else-known-at-clause-unknown c runs is =
    let known = c.args.known.now in
    let point = IsPartitionPoint-from_clause (λ (r : Known). nat_lt r.last c.args.address) _ _ c.partition_point-at.ensures.partitioned
    (IsPartitionedBy-ltb (λ (r : Known). r.last) known c.args.address (ends_rise known runs)) (λ a r q k. search rules) in
    outside known runs c.partition_point-at.result c.args.address point (λ within low high. let behind = c.if-known-at.false in omega (arith, behind, low))
