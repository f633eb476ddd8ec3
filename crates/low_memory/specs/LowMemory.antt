-- The memory as machines see it, whose addresses have 32 bits; and what lists of statements, which see no more, make of it.
use Rattle.std.specs.Prelude.{ℕ, ◌≡◌, ◌%◌, ◌^◌, Option, Some, None}
use Rattle.word_spec.specs.Memory.{Memory}
use Rattle.machine_spec.specs.Bil.{Statements}
use Rattle.machine_spec.specs.BilMeaning.{Value, Word, Bytes, Stuck, Env, Position, Ending, Ends, RaisesException, OutOfTurns, Wrong, execute}
use Rattle.machine_spec.specs.BilStores.{list_stored}

-- the memory with each byte that of the address's lowest 32 bits
abbrev pub low : Memory → Memory
low m = λ a. m (a % 2 ^ 32)

-- a value with such a memory
abbrev pub low_value : Value → Value
low_value (Word n v) = Word n v
low_value (Bytes m) = Bytes (low m)
low_value Stuck = Stuck

abbrev pub low_env : Env → Env
low_env e = record { regs = e.regs; flags = e.flags; mem = low e.mem; locals = λ y n. low_value (e.locals y n) }

abbrev pub low_some : Option Env → Option Env
low_some None = None
low_some (Some e) = Some (low_env e)

abbrev pub low_position : Position → Position
low_position s = record { env = low_env s.env; jump = s.jump; turns = s.turns }

abbrev pub low_ending : Ending → Ending
low_ending (Ends s) = Ends (low_position s)
low_ending (RaisesException n s) = RaisesException n (low_position s)
low_ending (OutOfTurns s) = OutOfTurns (low_position s)
low_ending Wrong = Wrong

-- From the memory as machines see it a list comes to what it comes to from the whole memory, but for that; and it stores the same bytes.
pub record ListsSeeLow (list : Statements) (choice : ℕ) (s : Position) : Type 0 where
  pub ends : execute list choice (low_position s) ≡ low_ending (execute list choice s)
  pub stores : list_stored list choice (low_position s) ≡ list_stored list choice s
