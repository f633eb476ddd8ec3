use Rattle.elf32_reader.specs.Images.{IsRunsTo}
use Rattle.elf32_reader.proofs.runs.kept_runs.Given as goal

abbrev pub invariant-loop-h : goal.invariant-loop-h
invariant-loop-h l = IsRunsTo l.found l.h-index l.runs.items
