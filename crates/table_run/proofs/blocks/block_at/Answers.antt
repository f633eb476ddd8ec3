use Rattle.std.proofs.Common.{◌<◌, ap, ◌∙◌, length, sym, rules, arith, Some}
use Rattle.std.specs.Prelude.{nat_lt}
use Rattle.std.proofs.lemmas.List.{get_or_default}
use Rattle.std.proofs.lemmas.List.Sorted.{IsPartitionPoint-from_clause, IsPartitionedBy-ltb}
use Rattle.state_text.specs.Starts.{written_call_of}
use Rattle.state_text.specs.declared.start.CallState.{CallState}
use Rattle.table_run.proofs.StepBlocks.{none_behind, none_beside, one_here, steps_rise}
use Rattle.table_run.proofs.blocks.block_at.Goals as goal

pub returns-then-i-calls-clause-first : goal.returns-then-i-calls-clause-first
returns-then-i-calls-clause-first c =
    let point =
    IsPartitionPoint-from_clause (λ (x : CallState). nat_lt x.step c.args.step) _ _ c.partition_point-i.ensures.partitioned
    (IsPartitionedBy-ltb (λ (x : CallState). x.step) c.args.calls.now c.args.step (steps_rise c.args.calls.now c.requires))
    (λ a r q k. search rules) in
    sym (none_behind c.args.calls.now c.partition_point-i.result c.args.step c.requires point c.if-i-calls.true)

pub returns-then-calls-i-clause-first : goal.returns-then-calls-i-clause-first
returns-then-calls-i-clause-first c =
    let inside : c.partition_point-i.result < length c.args.calls.now = omega arith in
    let point =
    IsPartitionPoint-from_clause (λ (x : CallState). nat_lt x.step c.args.step) _ _ c.partition_point-i.ensures.partitioned
    (IsPartitionedBy-ltb (λ (x : CallState). x.step) c.args.calls.now c.args.step (steps_rise c.args.calls.now c.requires))
    (λ a r q k. search rules) in
    sym (none_beside c.args.calls.now c.partition_point-i.result c.args.step c.requires point c.index-calls-i.result inside c.if-calls-i.true)

pub returns-clause-first : goal.returns-clause-first
returns-clause-first c =
    let inside : c.partition_point-i.result < length c.args.calls.now = omega arith in
    let point =
    IsPartitionPoint-from_clause (λ (x : CallState). nat_lt x.step c.args.step) _ _ c.partition_point-i.ensures.partitioned
    (IsPartitionedBy-ltb (λ (x : CallState). x.step) c.args.calls.now c.args.step (steps_rise c.args.calls.now c.requires))
    (λ a r q k. search rules) in
    ap (λ (x : CallState). Some (written_call_of x)) c.index-calls-i-2.is
    ∙ sym (one_here c.args.calls.now c.partition_point-i.result c.args.step c.requires point c.index-calls-i-2.result inside
    (ap (λ (x : CallState). x.step) (get_or_default c.args.calls.now c.partition_point-i.result c.index-calls-i-2.result c.index-calls-i.result inside)
    ∙ c.if-calls-i.false))

pub returns-clause-listed : goal.returns-clause-listed
returns-clause-listed c =
    let inside : c.partition_point-i.result < length c.args.calls.now = omega arith in
    (c.partition_point-i.result, inside, c.index-calls-i-2.is)
