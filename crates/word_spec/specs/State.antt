-- The state of a machine.
use Rattle.std.specs.Prelude.{ℕ, ◌<◌, ◌^◌, ◌==◌, if◌then◌else◌, List}
use Rattle.word_spec.specs.Memory.{Memory}

-- Registers and flags by number, memory by address. The flags are N 3, Z 2, C 1 and V 0. A number that the machine doesn't have is never read.
pub record State : Type 0 where
  pub pc : ℕ
  pub regs : ℕ → ℕ
  pub flags : ℕ → ℕ
  pub mem : Memory

-- what a register, a flag and a byte can hold
pub record IsState (s : State) : Type 0 where
  pub pc : s.pc < 2 ^ 32
  pub regs : (r : ℕ) → s.regs r < 2 ^ 32
  pub flags : (f : ℕ) → s.flags f < 2
  pub mem : (a : ℕ) → s.mem a < 256

-- a function with one value changed
abbrev pub put : (ℕ → ℕ) → ℕ → ℕ → ℕ → ℕ
put f at v x = if x == at then v else f x

-- the number of the flag N
abbrev pub flag_n : ℕ
flag_n = 3

-- the number of the flag Z
abbrev pub flag_z : ℕ
flag_z = 2

-- the number of the flag C
abbrev pub flag_c : ℕ
flag_c = 1

-- the number of the flag V
abbrev pub flag_v : ℕ
flag_v = 0

-- the state at another address
abbrev pub with_pc : State → ℕ → State
with_pc s a = record s { pc = a }

-- a start as it is written: the registers in order, the flags as N 8, Z 4, C 2, V 1, bytes by their addresses, choices by their steps
pub record Written : Type 0 where
  pub regs : List ℕ
  pub flags : ℕ
  pub bytes : List (ℕ × ℕ)
  pub choices : List (ℕ × ℕ)
