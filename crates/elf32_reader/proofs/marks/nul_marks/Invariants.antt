use Rattle.std.proofs.Common.{◌+◌}
use Rattle.elf32_reader.specs.Marks.{AreMarksTo}
use Rattle.elf32_reader.proofs.marks.nul_marks.Given as goal

abbrev pub invariant-loop-block : goal.invariant-loop-block
invariant-loop-block l = AreMarksTo l.file (l.block + 1) l.marks.items
