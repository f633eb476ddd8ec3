-- Entry states and the right verdict.
use Rattle.std.specs.Prelude.{ℕ, ◌≡◌, ◌<◌, ◌^◌, Bool, true, List, Some, None, ◌&&◌, nat_le}
use Rattle.std.specs.List.{list_any}
use Rattle.machine_spec.specs.Machine.{IsAtPlace}
use Rattle.word_spec.specs.State.{State, IsState}
use Rattle.bilv_spec.specs.Elf.{Cell, kept}
use Rattle.bilv_spec.specs.Notes.{FixedRange}
use Rattle.bilv_spec.specs.Run.{false_line, Program, Exited, Failed, Turned, run}
use Rattle.machine_spec.specs.Endings.{Start, Event}

-- an address is within a fixed range
abbrev pub fixed : List FixedRange → ℕ → Bool
fixed ranges a = list_any (λ r. nat_le r.low a && nat_le a r.high) ranges

-- an entry state
pub record IsEntryState (p : Program) (s : State) : Type 0 where
  pub state : IsState s
  pub pc : s.pc ≡ p.entry
  pub link : IsAtPlace p.machine.narrow (s.regs p.machine.link)
  -- memory agrees with the file on kept and on fixed bytes
  pub kept_bytes : (a : ℕ) (c : Cell) → a < 2 ^ 32 → p.loaded a ≡ Some c → kept c ≡ true → s.mem a ≡ c.byte
  pub fixed_bytes : (a : ℕ) (c : Cell) → a < 2 ^ 32 → p.loaded a ≡ Some c → fixed p.notes.fixed a ≡ true → s.mem a ≡ c.byte
  pub requires : false_line p.machine.endian p.notes.requires s s ≡ None

-- a start from an entry state, with choices 0 to 3
pub record IsStart (p : Program) (start : Start) : Type 0 where
  pub entry : IsEntryState p start.state
  pub choices : (i : ℕ) → start.choices i < 4

-- what the run from a start comes to, within k backward transfers
abbrev pub RunExits : Program → ℕ → Start → Type 0
RunExits p k start = (steps at n : ℕ) × (run p k start steps ≡ Exited at n)

-- the run has an event before its last backward transfer
abbrev pub RunFails : Program → ℕ → Start → Type 0
RunFails p k start = (steps at n : ℕ) × (e : Event) × (run p k start steps ≡ Failed e at n)

-- the run makes one backward transfer too many
abbrev pub RunTurns : Program → ℕ → Start → Type 0
RunTurns p k start = (steps at n : ℕ) × (run p k start steps ≡ Turned at n)

-- the four verdicts
pub data Verdict : Type 0 where
  Holds : Verdict
  Vacuous : Verdict
  Fails : Verdict
  Unroll : Verdict

-- the right verdict
abbrev pub IsRight : Program → ℕ → Verdict → Type 0
IsRight p k Vacuous = (s : State) → ¬ IsEntryState p s
IsRight p k Fails = (start : Start) × IsStart p start × RunFails p k start
IsRight p k Unroll = ((start : Start) → IsStart p start → ¬ RunFails p k start) × ((start : Start) × IsStart p start × RunTurns p k start)
IsRight p k Holds = ((s : State) × IsEntryState p s) × ((start : Start) → IsStart p start → RunExits p k start)
