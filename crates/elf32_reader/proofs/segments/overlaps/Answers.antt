use Rattle.std.proofs.Common.{◌+◌, ◌-◌, ◌≡◌, arith}
use Rattle.elf32_reader.specs.declared.segments.ProgramHeader.{ProgramHeader}
use Rattle.elf32_reader.proofs.Apart.{shared}
use Rattle.elf32_reader.proofs.segments.overlaps.Goals as goal

pub returns-then-before-found : goal.returns-then-before-found
returns-then-before-found c =
    let near : c.loop-i.i - 1 + 1 ≡ c.loop-i.i = omega arith in
    let d : ProgramHeader = record { kind = 0; offset = 0; address = 0; in_file = 0; in_memory = 0; flags = 0 } in
    shared c.args.found.now (c.loop-i.i - 1) d c.requires.rising c.requires.solid (omega arith) (rw near c.if-before-found.true)
