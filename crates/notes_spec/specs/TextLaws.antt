-- Laws of the program of two texts.
use Rattle.std.specs.Prelude.{ℕ, ◌<◌, List, slice_index}
use Rattle.machine_spec.specs.Machine.{IsAtPlace}
use Rattle.bilv_spec.specs.Run.{Program}
use Rattle.call_spec.specs.Calls.{Options}
use Rattle.notes_spec.specs.Programs.{IsProgram}
use Rattle.bilv_spec.specs.PointLaws.{HasLawfulRows}

-- a row can stand at the address of a program's function
abbrev pub EntryIsAligned : Type 0
EntryIsAligned = (o : Options) (file text : List ℕ) (p : Program) → IsProgram o file text p → IsAtPlace p.machine.narrow p.entry

-- the rows of a program of a file of bytes are lawful, so that the laws that ask this of rows speak of every program
abbrev pub ProgramRowsAreLawful : Type 0
ProgramRowsAreLawful = (o : Options) (file text : List ℕ) (p : Program) → ((i : ℕ) → slice_index file i < 256) → IsProgram o file text p → HasLawfulRows p
