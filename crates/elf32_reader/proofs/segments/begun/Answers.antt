use Rattle.std.proofs.Common.{rules}
use Rattle.std.specs.Prelude.{nat_le}
use Rattle.std.proofs.lemmas.List.Sorted.{IsPartitionPoint-from_clause, IsPartitionedBy-leb}
use Rattle.std.proofs.lemmas.Bool.{leb-true, leb-false}
use Rattle.elf32_reader.specs.declared.segments.ProgramHeader.{ProgramHeader}
use Rattle.elf32_reader.proofs.segments.begun.Goals as goal

pub returns-clause-before : goal.returns-clause-before
returns-clause-before c k d low high =
    let point = IsPartitionPoint-from_clause (λ (h : ProgramHeader). nat_le h.address c.args.a) _ _ c.partition_point.ensures.partitioned (IsPartitionedBy-leb
    (λ (h : ProgramHeader). h.address) c.args.found.now c.args.a c.requires) (λ a r q k. search rules) in
    leb-true _ _ (point.0 k d low high)

pub returns-clause-behind : goal.returns-clause-behind
returns-clause-behind c k d low high =
    let point = IsPartitionPoint-from_clause (λ (h : ProgramHeader). nat_le h.address c.args.a) _ _ c.partition_point.ensures.partitioned (IsPartitionedBy-leb
    (λ (h : ProgramHeader). h.address) c.args.found.now c.args.a c.requires) (λ a r q k. search rules) in
    leb-false _ _ (point.1 k d low high)
