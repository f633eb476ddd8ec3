-- What expressions read of a state.
use Rattle.std.specs.Prelude.{ℕ, ◌≡◌, ◌≤◌, ◌<◌, ◌^◌, Bool, true, IsTrue, nat_eq}
use Rattle.std.specs.List.{All, list_any}
use Rattle.bilv_spec.specs.Notes as notes
use Rattle.frame_spec.specs.Frames.{Contract}
use Rattle.bilv_spec.specs.Notes.{Expr, Number, Register, Flag, Pc, Bound, Memory, Old, Not, Binary}

-- it reads registers of the machine alone, and flags from V, 0, to N, 3
abbrev pub IsReadable : (ℕ → Bool) → Expr → Type 0
IsReadable has_register (Number n) = Unit {0}
IsReadable has_register (Register r) = IsTrue (has_register r)
IsReadable has_register (Flag f) = f ≤ 3
IsReadable has_register Pc = Unit {0}
IsReadable has_register Bound = Unit {0}
IsReadable has_register (Memory n a) = IsReadable has_register a
IsReadable has_register (Old a) = IsReadable has_register a
IsReadable has_register (Not a) = IsReadable has_register a
IsReadable has_register (Binary op a b) = IsReadable has_register a × IsReadable has_register b

-- what the lines of notes read are registers of a machine, and flags
pub record AreReadable (has_register : ℕ → Bool) (n : notes.Notes) : Type 0 where
  pub requires : All (λ l. IsReadable has_register l.says) n.requires
  pub ensures : All (λ l. IsReadable has_register l.says) n.ensures
  pub asserts : All (λ l. IsReadable has_register l.says) n.asserts

-- what the lines of a contract read are registers of a machine, and flags, and it changes registers of the machine alone
pub record IsReadableContract (has_register : ℕ → Bool) (c : Contract) : Type 0 where
  pub needs : All (λ l. IsReadable has_register l.says) c.needs
  pub gives : All (λ l. IsReadable has_register l.says) c.gives
  pub writes : All (λ w. IsReadable has_register w.says) c.writes
  pub registers : (r : ℕ) → list_any (nat_eq r) c.registers ≡ true → has_register r ≡ true

-- An expression over the words of a machine: it names registers and flags of the machine alone, its numbers have 32 bits, and it loads 1 to 4 bytes at once.
abbrev pub IsOver : (has_register has_flag : ℕ → Bool) → Expr → Type 0
IsOver has_register has_flag (Number n) = n < 2 ^ 32
IsOver has_register has_flag (Register r) = IsTrue (has_register r)
IsOver has_register has_flag (Flag f) = IsTrue (has_flag f)
IsOver has_register has_flag Pc = Unit {0}
IsOver has_register has_flag Bound = Unit {0}
IsOver has_register has_flag (Memory n a) = (1 ≤ n) × (n ≤ 4) × IsOver has_register has_flag a
IsOver has_register has_flag (Old a) = IsOver has_register has_flag a
IsOver has_register has_flag (Not a) = IsOver has_register has_flag a
IsOver has_register has_flag (Binary op a b) = IsOver has_register has_flag a × IsOver has_register has_flag b

-- the lines of notes are
pub record AreOver (has_register has_flag : ℕ → Bool) (n : notes.Notes) : Type 0 where
  pub requires : All (λ l. IsOver has_register has_flag l.says) n.requires
  pub ensures : All (λ l. IsOver has_register has_flag l.says) n.ensures
  pub asserts : All (λ l. IsOver has_register has_flag l.says) n.asserts
