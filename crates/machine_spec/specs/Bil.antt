-- BIL: types, variables, expressions and lists of statements (A Formal Specification for BIL, in a profile of this project's own).
use Rattle.std.specs.Prelude.{ℕ, ◌+◌, List}
use Rattle.word_spec.specs.Memory.{Endian}

-- bit vectors of a width, and memory with addresses of 32 bits and bytes
pub data BilType : Type 0 where
  Bits : ℕ → BilType
  Memory : BilType

-- the registers of RISC-V are named by x, those of ARM by r
pub data Bank : Type 0 where
  XRegisters : Bank
  RRegisters : Bank

-- A register or flag of the machine by its number, the machine's memory, or a local word by a number and its width. A list is of one machine, so a number tells
-- its register: x5 and r5 are two names of one register.
pub data BilVariable : Type 0 where
  Register : Bank → ℕ → BilVariable
  Flag : ℕ → BilVariable
  Mem : BilVariable
  Local : (number width : ℕ) → BilVariable

-- the operators
pub data BinaryOp : Type 0 where
  Plus : BinaryOp
  Minus : BinaryOp
  Times : BinaryOp
  Divide : BinaryOp
  SignedDivide : BinaryOp
  Modulo : BinaryOp
  SignedModulo : BinaryOp
  And : BinaryOp
  Or : BinaryOp
  Xor : BinaryOp
  ShiftLeft : BinaryOp
  ShiftRight : BinaryOp
  ShiftSigned : BinaryOp
  Equal : BinaryOp
  NotEqual : BinaryOp
  Less : BinaryOp
  LessEqual : BinaryOp
  SignedLess : BinaryOp
  SignedLessEqual : BinaryOp

-- the operators on one operand
pub data UnaryOp : Type 0 where
  Negate : UnaryOp
  Not : UnaryOp

-- the casts
pub data CastKind : Type 0 where
  Low : CastKind
  High : CastKind
  Signed : CastKind
  Unsigned : CastKind

-- Expressions. Loads and stores name their width in bits, a let binds a local word in its second expression, and the bits of an unknown are the choice's.
pub data Expression : Type 0 where
  Var : BilVariable → Expression
  Constant : (width value : ℕ) → Expression
  Load : (memory address : Expression) → Endian → (width : ℕ) → Expression
  Store : (memory address : Expression) → Endian → (width : ℕ) → (value : Expression) → Expression
  Binary : BinaryOp → Expression → Expression → Expression
  Unary : UnaryOp → Expression → Expression
  Cast : CastKind → (width : ℕ) → Expression → Expression
  Let : (number width : ℕ) → Expression → Expression → Expression
  Unknown : BilType → Expression
  Choose : Expression → Expression → Expression → Expression
  Extract : (hi lo : ℕ) → Expression → Expression
  Concat : Expression → Expression → Expression

-- A list of statements: each has what comes after it.
pub data Statements : Type 0 where
  Empty : Statements
  Assign : BilVariable → Expression → Statements → Statements
  JumpTo : Expression → Statements → Statements
  Raise : ℕ → Statements → Statements
  Special : List ℕ → Statements → Statements
  While : Expression → Statements → Statements → Statements
  If : Expression → Statements → Statements → Statements → Statements

-- the type of a variable
abbrev pub type_of : BilVariable → BilType
type_of (Register b r) = Bits 32
type_of (Flag f) = Bits 1
type_of Mem = Memory
type_of (Local x n) = Bits n

-- a number for each node of an expression, summed up
abbrev pub total : (Expression → ℕ) → Expression → ℕ
total f (Var x) = f (Var x)
total f (Constant n v) = f (Constant n v)
total f (Load m a e n) = f (Load m a e n) + total f m + total f a
total f (Store m a e n v) = f (Store m a e n v) + total f m + total f a + total f v
total f (Binary o a b) = f (Binary o a b) + total f a + total f b
total f (Unary o a) = f (Unary o a) + total f a
total f (Cast k n a) = f (Cast k n a) + total f a
total f (Let x n a b) = f (Let x n a b) + total f a + total f b
total f (Unknown t) = f (Unknown t)
total f (Choose c a b) = f (Choose c a b) + total f c + total f a + total f b
total f (Extract hi lo a) = f (Extract hi lo a) + total f a
total f (Concat a b) = f (Concat a b) + total f a + total f b

-- a number for each expression of a list, summed up
abbrev pub list_total : (Expression → ℕ) → Statements → ℕ
list_total f Empty = 0
list_total f (Assign x e rest) = f e + list_total f rest
list_total f (JumpTo e rest) = f e + list_total f rest
list_total f (Raise n rest) = list_total f rest
list_total f (Special t rest) = list_total f rest
list_total f (While e body rest) = f e + list_total f body + list_total f rest
list_total f (If e a b rest) = f e + list_total f a + list_total f b + list_total f rest

-- how many nodes an expression has
abbrev pub size : Expression → ℕ
size e = total (λ node. 1) e

-- how many nodes a list has: its statements, those of its blocks among them, and the nodes of their expressions
abbrev pub list_size : Statements → ℕ
list_size Empty = 0
list_size (Assign x e rest) = 1 + size e + list_size rest
list_size (JumpTo e rest) = 1 + size e + list_size rest
list_size (Raise n rest) = 1 + list_size rest
list_size (Special t rest) = 1 + list_size rest
list_size (While e body rest) = 1 + size e + list_size body + list_size rest
list_size (If e a b rest) = 1 + size e + list_size a + list_size b + list_size rest
