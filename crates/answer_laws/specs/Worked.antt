-- The verdict of work that is made from a number.
use Rattle.std.specs.Prelude.{ℕ}
use Rattle.bilv_spec.specs.Run.{Program}
use Rattle.bilv_spec.specs.Verdict.{IsRight, Holds}
use Rattle.call_spec.specs.Calls.{default_options}
use Rattle.notes_spec.specs.Verified.{IsFound}
use Rattle.command_spec.specs.Work.{work_file, work_notes}
use Rattle.command_spec.specs.Commands.{SelfRun, IsLawfulCommand}

-- The file and the notes that are made are a program, and their program holds for every number of backward transfers.
abbrev pub WorkHolds : Type 0
WorkHolds = (seed count : ℕ) → IsLawfulCommand (SelfRun seed count) →
    ((p : Program) × IsFound default_options (work_file seed count) (work_notes seed count) p)
    × ((p : Program) → IsFound default_options (work_file seed count) (work_notes seed count) p → (k : ℕ) → IsRight p k Holds)
