-- A lifted list does what its row does.
use Rattle.std.specs.Prelude.{◌≡◌, ℕ, ◌<◌, Option, Some, None}
use Rattle.word_spec.specs.State.{State, IsState}
use Rattle.machine_spec.specs.Machine.{How, On, Direct, DirectCall, Indirect, IndirectCall, Outcome, Goes, Raises, exception_number}
use Rattle.machine_spec.specs.Bil.{Statements}
use Rattle.machine_spec.specs.BilMeaning.{Value, Env, Position, Ending, Ends, RaisesException, OutOfTurns, Wrong, execute}

-- the local words, by number and width
abbrev pub Locals : Type 0
Locals = ℕ → ℕ → Value

-- a state's variables, with whatever local ones
abbrev pub env_of : Locals → State → Env
env_of l s = record { regs = s.regs; flags = s.flags; mem = s.mem; locals = l }

-- a list's start, or end, in a state
abbrev pub position : Locals → ℕ → Option ℕ → State → Position
position l turns jump s = record { env = env_of l s; jump = jump; turns = turns }

-- the jump that a row makes
abbrev pub jump_of : How → State → Option ℕ
jump_of On s = None
jump_of Direct s = Some s.pc
jump_of DirectCall s = Some s.pc
jump_of Indirect s = Some s.pc
jump_of IndirectCall s = Some s.pc

-- what is compared of a list's and a row's end: after an exception its number alone
pub data Compared : Type 0 where
  Finished : Position → Compared
  Raised : ℕ → Compared
  Unfinished : Compared

-- of a list's end
abbrev pub of_list : Ending → Compared
of_list (Ends p) = Finished p
of_list (RaisesException n p) = Raised n
of_list (OutOfTurns p) = Unfinished
of_list Wrong = Unfinished

-- of a row's: its registers, flags and memory, and its jump, or its exception
abbrev pub of_row : Locals → ℕ → Outcome → Compared
of_row l turns (Goes how s) = Finished (position l turns (jump_of how s) s)
of_row l turns (Raises e) = Raised (exception_number e)

-- from every state at the address, under every choice, the list ends as the row does
abbrev pub Simulates : (State → ℕ → Outcome) → ℕ → Statements → Type 0
Simulates effect at list =
    (s : State) → IsState s → s.pc ≡ at → (choice turns : ℕ) → choice < 4 → (l : Locals) →
    of_list (execute list choice (position l turns None s)) ≡ of_row l turns (effect s choice)
