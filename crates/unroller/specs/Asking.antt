-- The program of a file, whose function is asked for flags at the exit, and the frame of a program.
use Rattle.std.specs.Prelude.{ℕ, Bool, List, []}
use Rattle.machine_spec.specs.Machine.{Machine}
use Rattle.bilv_spec.specs.Files.{program_of}
use Rattle.bilv_spec.specs.Notes.{Notes}
use Rattle.bilv_spec.specs.Run.{Program}
use Rattle.frame_spec.specs.Frames.{Frame}
use Rattle.frame_spec.specs.FrameVerdict.{entry_frame}

-- a program with the flags that are asked for at the exit besides those of the notes
abbrev pub asking : Program → (out : ℕ → Bool) → Program
asking p out = record p { out = out }

-- the program of a machine, an ELF file, notes and the address of their function, with the flags that are asked for at the exit besides those of the notes
abbrev pub program_asking : Machine → List ℕ → Notes → (entry : ℕ) → (out : ℕ → Bool) → Program
program_asking m file notes entry out = asking (program_of m file notes entry) out

-- the frame of a program with the numbers of those assert lines that are invariants, whose runs are cut at its heads
abbrev pub frame_of : Program → (invariants : List ℕ) → Frame
frame_of p invariants = entry_frame (record { program = p; invariants = invariants; contracts = [] })
