use Rattle.std.proofs.Common.{arith}
use Rattle.bilv_spec.specs.ElfFaults.{section}
use Rattle.elf32_reader.proofs.Tables.{is_name, not_name}
use Rattle.elf32_reader.proofs.symbols.name_is.Goals as goal

pub returns-then-not-stands_at : goal.returns-then-not-stands_at
returns-then-not-stands_at c =
    not_name c.args.file.now c.args.name.now (section c.args.file.now c.args.link) c.args.names.now.offset c.args.at c.requires.header.offset
    c.if-not-stands_at.ensures

pub returns : goal.returns
returns c =
    is_name c.args.file.now c.args.name.now (section c.args.file.now c.args.link) c.args.names.now.offset c.args.names.now.size c.args.at
    c.requires.header.offset c.requires.header.size c.if-at-name.false c.if-not-stands_at.ensures c.if-file-start-ne0.false
    (λ i w. c.loop-byte.invariant i (omega arith))
