-- What an evaluation asks of an expression: it is well typed, and its variables are known. These words follow the tree, so that they hold of a node's operands.
use Rattle.std.specs.Prelude.{◌≡◌, ◌+◌, ◌≤◌, ◌<◌, Bool, true, false, ◌||◌}
use Rattle.machine_spec.specs.Bil.{BilType, Bits, Memory, BilVariable, Register, Flag, Mem, Local, Expression, Var, Constant, Load, Store, Binary, Unary, Cast, Let, Unknown, Choose, Extract, Concat, Statements, Empty, Assign, JumpTo, Raise, Special, While, If, type_of}
use Rattle.machine_spec.specs.BilTyping.{is_load_width, cast_fits}
use Rattle.machine_spec.specs.BilCounts.{width, is_local}

-- the expression is the machine's memory itself
abbrev pub is_memory_variable : Expression → Bool
is_memory_variable (Var Mem) = true
is_memory_variable e = false

abbrev mutual
  -- a well typed word over known variables
  pub IsWord : Expression → (BilVariable → Bool) → Type 0
  IsWord (Var (Register b r)) known = known (Register b r) ≡ true
  IsWord (Var (Flag f)) known = known (Flag f) ≡ true
  IsWord (Var Mem) known = ⊥
  IsWord (Var (Local x n)) known = known (Local x n) ≡ true
  IsWord (Constant n v) known = Unit {0}
  IsWord (Load m a e n) known = IsMemory m known × IsWord a known × (width a ≡ 32) × (is_load_width n ≡ true)
  IsWord (Store m a e n v) known = ⊥
  IsWord (Binary o a b) known = IsWord a known × IsWord b known × (width a ≡ width b)
  IsWord (Unary o a) known = IsWord a known
  IsWord (Cast k n a) known = IsWord a known × (cast_fits k n (width a) ≡ true)
  IsWord (Let x n a b) known = IsWord a known × (width a ≡ n) × IsWord b (λ y. is_local x n y || known y)
  IsWord (Unknown (Bits n)) known = Unit {0}
  IsWord (Unknown Memory) known = ⊥
  IsWord (Choose c a b) known = IsWord c known × (width c ≡ 1) × IsWord a known × IsWord b known × (width a ≡ width b)
  IsWord (Extract hi lo a) known = IsWord a known × (lo ≤ hi) × (hi < width a)
  IsWord (Concat a b) known = IsWord a known × IsWord b known × (width a + width b ≤ 64)

  -- a well typed memory over known variables
  pub IsMemory : Expression → (BilVariable → Bool) → Type 0
  IsMemory (Var (Register b r)) known = ⊥
  IsMemory (Var (Flag f)) known = ⊥
  IsMemory (Var Mem) known = Unit {0}
  IsMemory (Var (Local x n)) known = ⊥
  IsMemory (Constant n v) known = ⊥
  IsMemory (Load m a e n) known = ⊥
  IsMemory (Store m a e n v) known =
      IsMemory m known × IsWord a known × (width a ≡ 32) × IsWord v known × (width v ≡ n) × (is_load_width n ≡ true)
  IsMemory (Binary o a b) known = ⊥
  IsMemory (Unary o a) known = ⊥
  IsMemory (Cast k n a) known = ⊥
  IsMemory (Let x n a b) known = IsWord a known × (width a ≡ n) × IsMemory b (λ y. is_local x n y || known y)
  IsMemory (Unknown t) known = ⊥
  IsMemory (Choose c a b) known = IsWord c known × (width c ≡ 1) × IsMemory a known × IsMemory b known
  IsMemory (Extract hi lo a) known = ⊥
  IsMemory (Concat a b) known = ⊥

-- an expression of a type over known variables
abbrev pub IsChecked : Expression → BilType → (BilVariable → Bool) → Type 0
IsChecked e (Bits n) known = IsWord e known × (width e ≡ n)
IsChecked e Memory known = IsMemory e known

-- a well typed list over known variables
abbrev pub IsRunnable : Statements → (BilVariable → Bool) → Type 0
IsRunnable Empty known = Unit {0}
IsRunnable (Assign x e rest) known = (known x ≡ true) × IsChecked e (type_of x) known × IsRunnable rest known
IsRunnable (JumpTo e rest) known = IsChecked e (Bits 32) known × IsRunnable rest known
IsRunnable (Raise n rest) known = IsRunnable rest known
IsRunnable (Special t rest) known = IsRunnable rest known
IsRunnable (While e body rest) known = IsChecked e (Bits 1) known × IsRunnable body known × IsRunnable rest known
IsRunnable (If e a b rest) known = IsChecked e (Bits 1) known × IsRunnable a known × IsRunnable b known × IsRunnable rest known
