use Rattle.std.proofs.Common.{ℕ, ◌≡◌, ◌<◌, ◌≤◌, ◌+◌, ◌^◌}
use Rattle.elf32_reader.specs.Loads.{header}
use Rattle.elf32_reader.proofs.segments.passes_memory.Given as goal

abbrev pub invariant-loop-i : goal.invariant-loop-i
invariant-loop-i l =
    (k : ℕ) → k < l.i → (header l.file k).kind ≡ 1 → (header l.file k).address + (header l.file k).in_memory ≤ 2 ^ 32
