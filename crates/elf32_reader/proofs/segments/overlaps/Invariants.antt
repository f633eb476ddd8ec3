use Rattle.std.proofs.Common.{ℕ, ◌<◌, ◌≤◌, ◌+◌, get_or}
use Rattle.elf32_reader.specs.declared.segments.ProgramHeader.{ProgramHeader}
use Rattle.elf32_reader.proofs.segments.overlaps.Given as goal

abbrev pub invariant-loop-i : goal.invariant-loop-i
invariant-loop-i l =
    (k : ℕ) (d : ProgramHeader) → k + 1 < l.i → (get_or l.found k d).address + (get_or l.found k d).in_memory ≤ (get_or l.found (k + 1) d).address
