use Rattle.std.proofs.Common.{ℕ, ◌<◌}
use Rattle.bilv_spec.specs.ElfFaults.{IsSymbols}
use Rattle.note_check.proofs.symbols.has_symbols.Given as goal

abbrev pub invariant-loop-i : goal.invariant-loop-i
invariant-loop-i l = (k : ℕ) → k < l.i → ¬ IsSymbols l.file k
