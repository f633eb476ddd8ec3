-- The rows of a side are lawful, and what they decode is what memory has.
use Rattle.std.proofs.Common.{refl}
use Rattle.bilv_spec.specs.PointLaws.{HasLawfulRows, ReadsMemory}
use Rattle.bilv_spec.proofs.ProgramRows.{cell_small, rows_lawful}
use Rattle.machine_spec.specs.MachineLaws.{IsLawfulMachine}
use Rattle.machine_spec.proofs.ArmLawful.{arm_is_lawful}
use Rattle.machine_spec.proofs.RvNarrow.{rv_is_lawful}
use Rattle.pair_sides.specs.Sides.{IsSided, machine_in, program_of_side}
use Rattle.pair_sides.specs.declared.sides.Sided.{Sided}
use Rattle.start_value.specs.Starts.{profile_in}
use Rattle.start_value.specs.declared.layout.Layout.{Layout}
use Rattle.start_value.specs.declared.layout.Layout.TheVariants.{Rv32, Arm}
use Rattle.word_spec.specs.Memory.{endian}

lawful_in : (l : Layout) → IsLawfulMachine (machine_in l)
lawful_in (Rv32 compressed) = rv_is_lawful compressed
lawful_in (Arm big profile) = arm_is_lawful (endian big) (profile_in profile)

pub side_rows : (s : Sided) → IsSided s → HasLawfulRows (program_of_side s)
side_rows s h = rows_lawful (program_of_side s) (lawful_in s.layout) (λ a. cell_small s.image.now h.bytes a _)

pub side_reads : (s : Sided) → ReadsMemory (program_of_side s)
side_reads s = record { word = λ w a. refl; little = (lawful_in s.layout).little }
