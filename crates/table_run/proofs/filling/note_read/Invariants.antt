use Rattle.std.proofs.Common.{ℕ, List, ◌++◌, take}
use Rattle.program_value.specs.Programs.{program_of}
use Rattle.table_run.specs.Traces.{IsReadSet}
use Rattle.table_run.proofs.filling.note_read.Given as goal

abbrev pub invariant-loop-a : goal.invariant-loop-a
invariant-loop-a g l =
    (before : List ℕ) → IsReadSet (program_of l.p) before l.fn.read → IsReadSet (program_of l.p) (before ++ take l.a-index l.places) l.read
