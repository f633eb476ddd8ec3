-- What a step of the code comes to, as definitions see it.
use Rattle.std.specs.Prelude.{ℕ, ◌≡◌, true, List, Option, Some, None}
use Rattle.word_spec.specs.Words.{sub}
use Rattle.word_spec.specs.State.{State}
use Rattle.machine_spec.specs.Machine as machine
use Rattle.bilv_spec.specs.Run as run
use Rattle.byte_mem.specs.Views.{how_of}
use Rattle.byte_mem.specs.declared.How.{How}
use Rattle.state_text.specs.Starts.{event_of}
use Rattle.table_run.specs.declared.ending.StepEnd.{StepEnd}
use Rattle.table_run.specs.declared.ending.StepEnd.TheVariants as end
use Rattle.table_run.specs.declared.jumps.Before.{Before}

-- a step's end, with the state and the stack that it leaves
abbrev pub IsStepEnd : StepEnd → State → List ℕ → run.Step → Type 0
IsStepEnd (end.Stops event) state stack step = step ≡ run.Stops (event_of event)
IsStepEnd end.Arrives state stack step = step ≡ run.Arrives (record { state = state; stack = stack })
IsStepEnd end.Exits state stack step = step ≡ run.Exits state

-- how a step went on, where none is no jump
abbrev pub way_of : Option How → machine.How
way_of None = machine.On
way_of (Some how) = how_of how

-- the code knows this of a row in the state before its step; of its targets where it may jump to an address that the state gives
pub record IsBefore (p : run.Program) (row : machine.Row) (old : State) (b : Before) : Type 0 where
  pub length : row.length ≡ b.length
  pub at : old.pc ≡ b.at
  pub pair : (row.successors old.pc).indirect ≡ true → machine.pair_of (run.row_at p (p.word old) (sub 32 old.pc 4)) (Some row) old.pc ≡ b.pair
  pub literal : (row.successors old.pc).indirect ≡ true → run.literal_target p (p.word old) (row.literal old.pc) ≡ run.some_of b.literal
