use Rattle.std.proofs.Common.{arith, below_more}
use Rattle.elf32_reader.proofs.Tables.{no_bad_symbols}
use Rattle.elf32_reader.proofs.symbols.has_bad_section.Goals as goal

pub loop-i-preserved : goal.loop-i-preserved
loop-i-preserved c = below_more _ _ c.loop-i.invariant c.if-is_bad_section.ensures

pub returns : goal.returns
returns c = no_bad_symbols c.args.file.now c.requires.entry c.requires.table (λ k w. c.loop-i.invariant k (omega (arith, c.half-i-end.ensures)))
