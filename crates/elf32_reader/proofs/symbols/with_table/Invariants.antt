use Rattle.elf32_reader.specs.Symbols.{IsLeast, IsSeen}
use Rattle.elf32_reader.proofs.symbols.with_table.Given as goal

abbrev pub invariant-loop-k : goal.invariant-loop-k
invariant-loop-k l = IsLeast (IsSeen l.narrow l.file l.name l.i l.k) l.found
