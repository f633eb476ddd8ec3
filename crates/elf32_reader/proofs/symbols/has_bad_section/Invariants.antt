use Rattle.std.proofs.Common.{ℕ, ◌<◌, ◌≡◌}
use Rattle.bilv_spec.specs.ElfFaults.{section, IsBadSymbols}
use Rattle.elf32_reader.proofs.symbols.has_bad_section.Given as goal

abbrev pub invariant-loop-i : goal.invariant-loop-i
invariant-loop-i l = (k : ℕ) → k < l.i → (section l.file k).kind ≡ 2 → ¬ IsBadSymbols l.file k
