-- What is told of an instruction, as the definitions have it.
use Rattle.std.specs.Prelude.{ℕ, ◌≡◌, ◌<◌, ◌^◌, ◌==◌, List, Option, Some, None, length}
use Rattle.std.specs.Global.{Vec}
use Rattle.word_spec.specs.Words.{bit_at}
use Rattle.word_spec.specs.Memory.{memory_of}
use Rattle.word_spec.specs.State.{State, Written}
use Rattle.machine_spec.specs.Machine as table
use Rattle.machine_spec.specs.MachineLaws.{IsLifting}
use Rattle.machine_spec.specs.Bil.{Bank}
use Rattle.machine_spec.specs.StateText.{Layout, register_at}
use Rattle.bil_ast.specs.declared.statements.Stmt.{Stmt}
use Rattle.bil_ast.specs.Views.{statements}
use Rattle.machine_law.specs.declared.facts.Succ.{Succ}
use Rattle.machine_law.specs.declared.facts.Cost.{Cost}
use Rattle.machine_law.specs.declared.facts.FlagUse.{FlagUse}

-- static successors
abbrev pub successors_of : Succ → table.Successors
successors_of s = record { next = s.next; direct = s.direct; indirect = s.indirect; call = s.call }

-- a cost
abbrev pub cost_of : Cost → table.Cost
cost_of c = record { row = c.row; loads = c.loads; stores = c.stores }

-- the flags below 4 that the bits of three numbers say, and no others
pub record IsFlagUse (found : FlagUse) (flags : table.FlagUse) : Type 0 where
  pub small : (found.reads < 16) × (found.assigns < 16) × (found.surely < 16)
  pub reads : (f : ℕ) → f < 4 → (bit_at f found.reads == 1) ≡ flags.reads f
  pub assigns : (f : ℕ) → f < 4 → (bit_at f found.assigns == 1) ≡ flags.assigns f
  pub surely : (f : ℕ) → f < 4 → (bit_at f found.surely == 1) ≡ flags.surely f

-- a start has the registers and the flags of a form
pub record IsFit (form : Layout) (w : Written) : Type 0 where
  pub registers : length w.regs ≡ length form.registers
  pub flags : w.flags < 2 ^ length form.flags

-- the state of a start at an address, with the memory of entries
abbrev pub made : Layout → Written → (pc : ℕ) → List (ℕ × ℕ) → State
made form w pc entries = record { pc = pc; regs = register_at form w.regs; flags = λ f. bit_at f w.flags; mem = memory_of entries }

-- the list of a word by its row: one that does what the row does where it stands at an address, and none where there is no row
abbrev pub IsLiftedWord : table.Machine → Bank → Option table.Row → (at : ℕ) → Option (Vec Stmt) → Type 0
IsLiftedWord m bank None at None = Unit {0}
IsLiftedWord m bank (Some row) at (Some v) = IsLifting m bank row at (statements v.items)
IsLiftedWord m bank None at (Some v) = ⊥
IsLiftedWord m bank (Some row) at None = ⊥
