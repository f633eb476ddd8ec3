-- Why a state at the entry address is no entry state.
use Rattle.std.specs.Prelude.{ℕ, ◌≡◌, ◌≢◌, ◌<◌, ◌^◌, true, Option, Some, None}
use Rattle.machine_spec.specs.Machine.{IsAtPlace}
use Rattle.word_spec.specs.State.{State}
use Rattle.bilv_spec.specs.Run.{Program, false_line}
use Rattle.bilv_spec.specs.Points.{is_known_at, byte_of_cell}

-- at the address in the link register no row can stand; a require line is false, by its number; the byte at an address isn't the file's
pub data EntryStateFault : Type 0 where
  UnalignedLink : EntryStateFault
  FalseRequire : (line : ℕ) → EntryStateFault
  WrongByte : (at : ℕ) → EntryStateFault

-- the byte at an address is kept or fixed, and isn't the file's
abbrev pub IsWrongByte : Program → State → ℕ → Type 0
IsWrongByte p s a = (a < 2 ^ 32) × (is_known_at p a ≡ true) × (s.mem a ≢ byte_of_cell (p.loaded a))

-- the first false require line
abbrev pub false_require : Program → State → Option ℕ
false_require p s = false_line p.machine.endian p.notes.requires s s

-- the first fault, in the order link, require lines by their numbers, bytes by their addresses
abbrev pub IsEntryStateFault : Program → State → EntryStateFault → Type 0
IsEntryStateFault p s UnalignedLink = ¬ IsAtPlace p.machine.narrow (s.regs p.machine.link)
IsEntryStateFault p s (FalseRequire n) = IsAtPlace p.machine.narrow (s.regs p.machine.link) × (false_require p s ≡ Some n)
IsEntryStateFault p s (WrongByte a) =
    IsAtPlace p.machine.narrow (s.regs p.machine.link) × (false_require p s ≡ None) × IsWrongByte p s a × ((c : ℕ) → c < a → ¬ IsWrongByte p s c)
