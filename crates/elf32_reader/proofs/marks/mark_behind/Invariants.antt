use Rattle.elf32_reader.specs.Marks.{IsMark}
use Rattle.elf32_reader.proofs.marks.mark_behind.Given as goal

abbrev pub invariant-loop-at : goal.invariant-loop-at
invariant-loop-at l = IsMark l.file l.at l.mark
