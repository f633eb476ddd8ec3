use Rattle.std.proofs.Common.{arith}
use Rattle.elf32_reader.proofs.Least.{seen_table}
use Rattle.elf32_reader.proofs.symbols.with_table.Goals as goal

pub returns : goal.returns
returns c =
    let whole = c.requires.readable.whole in
    seen_table c.args.narrow c.args.file.now c.args.name.now c.args.i c.loop-k.k c.loop-k.found
    (omega (arith, whole.1, c.section_header-symbols.ensures.size)) c.loop-k.invariant
