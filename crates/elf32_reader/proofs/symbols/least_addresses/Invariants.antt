use Rattle.elf32_reader.specs.Symbols.{IsLeast, IsSeen}
use Rattle.elf32_reader.proofs.symbols.least_addresses.Given as goal

abbrev pub invariant-loop-i : goal.invariant-loop-i
invariant-loop-i l = IsLeast (IsSeen l.narrow l.file l.name l.i 0) l.found
