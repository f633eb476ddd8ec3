use Rattle.std.proofs.Common.{◌≡◌}
use Rattle.bilv_spec.specs.Elf.{field}
use Rattle.note_check.proofs.Headers.{warned_to}
use Rattle.note_check.proofs.ranges.writable_code.Given as goal

abbrev pub invariant-loop-i : goal.invariant-loop-i
invariant-loop-i l = l.found.items ≡ warned_to l.file (field l.file 4 28) l.i
