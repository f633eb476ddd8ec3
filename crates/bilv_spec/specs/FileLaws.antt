-- Laws of ELF files.
use Rattle.std.specs.Prelude.{ℕ, ◌≡◌, List}
use Rattle.bilv_spec.specs.ElfFaults.{FileFault, IsFirstFileFault}

-- a file has at most one first fault
abbrev pub OneFault : Type 0
OneFault = (file : List ℕ) (f g : FileFault) → IsFirstFileFault file f → IsFirstFileFault file g → f ≡ g
