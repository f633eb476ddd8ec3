-- The machine, the program and the side of a function that is compared.
use Rattle.std.specs.Prelude.{ℕ, ◌≡◌, ◌<◌, slice_index}
use Rattle.word_spec.specs.Memory.{endian}
use Rattle.machine_spec.specs.Machine.{Machine}
use Rattle.machine_spec.specs.RvMachine.{rv32}
use Rattle.machine_spec.specs.Arm.{arm}
use Rattle.call_spec.specs.Calls.{Options}
use Rattle.bilv_spec.specs.Files.{machine_of, order_of, program_of}
use Rattle.bilv_spec.specs.Run.{Program}
use Rattle.notes_value.specs.NoteViews.{notes_of}
use Rattle.notes_value.specs.Reads.{AreOver, AreReadable}
use Rattle.pair_spec.specs.Equals.{Side}
use Rattle.start_value.specs.Starts.{layout_of, profile_in}
use Rattle.start_value.specs.declared.layout.Layout.{Layout}
use Rattle.start_value.specs.declared.layout.Layout.TheVariants.{Rv32, Arm}
use Rattle.pair_sides.specs.declared.sides.Sided.{Sided}

-- the machine of a form of states
abbrev pub machine_in : Layout → Machine
machine_in (Rv32 compressed) = rv32 compressed
machine_in (Arm big profile) = arm (endian big) (profile_in profile)

-- the program of a side
abbrev pub program_of_side : Sided → Program
program_of_side s = program_of (machine_in s.layout) s.image.now (notes_of s.notes.now) s.entry

-- the side as one of two
abbrev pub side_of : Sided → Side
side_of s = record { program = program_of_side s; layout = layout_of s.layout }

-- what is had of a side: its form is that of the file's machine by some options, and its notes speak of what the machine has
pub record IsSided (s : Sided) : Type 0 where
  pub options : Options
  pub machine : machine_of options s.image.now ≡ machine_in s.layout
  pub order : order_of s.image.now ≡ (machine_in s.layout).endian
  pub bytes : (i : ℕ) → slice_index s.image.now i < 256
  pub readable : AreReadable (machine_in s.layout).has_register (notes_of s.notes.now)
  pub over : AreOver (machine_in s.layout).has_register (machine_in s.layout).has_flag (notes_of s.notes.now)
