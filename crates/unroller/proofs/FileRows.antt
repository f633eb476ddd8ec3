-- The rows that a lawful machine has in a file.
use Rattle.std.proofs.Common.{ℕ, ◌<◌, List}
use Rattle.std.specs.Prelude.{Bool, slice_index}
use Rattle.bilv_spec.specs.Files.{program_of}
use Rattle.bilv_spec.specs.Notes.{Notes}
use Rattle.bilv_spec.specs.PointLaws.{HasLawfulRows}
use Rattle.bilv_spec.proofs.ProgramRows.{cell_small, rows_lawful}
use Rattle.machine_spec.specs.Machine.{Machine}
use Rattle.machine_spec.specs.MachineLaws.{IsLawfulMachine}
use Rattle.program_points.specs.Listed.{HasOneWay}
use Rattle.unroller.specs.Asking.{program_asking}

-- they are lawful
pub file_rows_lawful : (m : Machine) (file : List ℕ) (notes : Notes) (entry : ℕ) → IsLawfulMachine m → ((i : ℕ) → slice_index file i < 256) →
    HasLawfulRows (program_of m file notes entry)
file_rows_lawful m file notes entry lawful small = rows_lawful (program_of m file notes entry) lawful (λ a. cell_small file small a _)

-- so no row has both a direct and an indirect successor, whatever is asked for at the exit
pub asked_one_way : (m : Machine) (file : List ℕ) (notes : Notes) (entry : ℕ) (out : ℕ → Bool) → IsLawfulMachine m → ((i : ℕ) → slice_index file i < 256) →
    HasOneWay (program_asking m file notes entry out)
asked_one_way m file notes entry out lawful small = record { direct = λ a row e. (file_rows_lawful m file notes entry lawful small a row e).one_way a }
