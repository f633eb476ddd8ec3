-- Notes, and the value of an expression.
use Rattle.std.specs.Prelude.{ℕ, ◌+◌, ◌-◌, Bool, List, [], ◌∷◌, ◌==◌, not, ◌&&◌, ◌||◌, nat_lt, nat_le, bit_and, bit_or, bit_xor, map}
use Rattle.word_spec.specs.Words.{add, sub, mul, bit, signed_lt, signed_le, shl, shr, sar}
use Rattle.word_spec.specs.Memory.{Endian, load}
use Rattle.word_spec.specs.State.{State}
use Rattle.word_spec.specs.RowFiles.{from_to}

-- the binary operators; Each joins the values of an `all`, and is no operator of the text
pub data Op : Type 0 where
  Or : Op
  And : Op
  Equal : Op
  NotEqual : Op
  Below : Op
  AtMost : Op
  Above : Op
  AtLeast : Op
  SignedBelow : Op
  SignedAtMost : Op
  SignedAbove : Op
  SignedAtLeast : Op
  BitOr : Op
  BitXor : Op
  BitAnd : Op
  ShiftLeft : Op
  ShiftRight : Op
  ShiftSigned : Op
  Plus : Op
  Minus : Op
  Times : Op
  Each : Op

-- expressions: a number, a register, a flag, the address of the step, the name that an `all` binds, a load of so many bytes, a value at entry, and operators
pub data Expr : Type 0 where
  Number : ℕ → Expr
  Register : ℕ → Expr
  Flag : ℕ → Expr
  Pc : Expr
  Bound : Expr
  Memory : ℕ → Expr → Expr
  Old : Expr → Expr
  Not : Expr → Expr
  Binary : Op → Expr → Expr → Expr

-- an expression with the number of its line
pub record NoteLine : Type 0 where
  pub line : ℕ
  pub says : Expr

-- an expression that is to be true at an address
pub record Assert : Type 0 where
  pub line : ℕ
  pub at : ℕ
  pub says : Expr

-- the targets that an indirect jump at an address may have
pub record Targets : Type 0 where
  pub at : ℕ
  pub to : List ℕ

-- both ends belong to it
pub record FixedRange : Type 0 where
  pub low : ℕ
  pub high : ℕ

-- where the function begins, by a number or by a symbol's name
pub data Function : Type 0 where
  At : ℕ → Function
  Named : List ℕ → Function

-- notes, each list in the order of the lines
pub record Notes : Type 0 where
  pub entry : Function
  pub requires : List NoteLine
  pub ensures : List NoteLine
  pub asserts : List Assert
  pub targets : List Targets
  pub fixed : List FixedRange

-- a value that counts as true
abbrev pub is_true : ℕ → Bool
is_true n = not (n == 0)

-- a binary operator on words of 32 bits; shifts by 32 and above give all fill
abbrev pub apply : Op → ℕ → ℕ → ℕ
apply Or a b = bit (is_true a || is_true b)
apply And a b = bit (is_true a && is_true b)
apply Equal a b = bit (a == b)
apply NotEqual a b = bit (not (a == b))
apply Below a b = bit (nat_lt a b)
apply AtMost a b = bit (nat_le a b)
apply Above a b = bit (nat_lt b a)
apply AtLeast a b = bit (nat_le b a)
apply SignedBelow a b = bit (signed_lt 32 a b)
apply SignedAtMost a b = bit (signed_le 32 a b)
apply SignedAbove a b = bit (signed_lt 32 b a)
apply SignedAtLeast a b = bit (signed_le 32 b a)
apply BitOr a b = bit_or a b
apply BitXor a b = bit_xor a b
apply BitAnd a b = bit_and a b
apply ShiftLeft a b = shl 32 a b
apply ShiftRight a b = shr 32 a b
apply ShiftSigned a b = sar 32 a b
apply Plus a b = add 32 a b
apply Minus a b = sub 32 a b
apply Times a b = mul 32 a b
apply Each a b = bit (is_true a && is_true b)

-- the value of an expression in the state now, for a run that began in the state at entry; a bound name outside its `all` counts as 0
abbrev pub value : Endian → Expr → State → State → ℕ
value e (Number n) now entry = n
value e (Register r) now entry = now.regs r
value e (Flag f) now entry = now.flags f
value e Pc now entry = now.pc
value e Bound now entry = 0
value e (Memory n a) now entry = load e n now.mem (value e a now entry)
value e (Old a) now entry = value e a entry entry
value e (Not a) now entry = bit (not (is_true (value e a now entry)))
value e (Binary op a b) now entry = apply op (value e a now entry) (value e b now entry)

-- the expression with a number in place of the bound name
abbrev pub put_bound : ℕ → Expr → Expr
put_bound v (Number n) = Number n
put_bound v (Register r) = Register r
put_bound v (Flag f) = Flag f
put_bound v Pc = Pc
put_bound v Bound = Number v
put_bound v (Memory n a) = Memory n (put_bound v a)
put_bound v (Old a) = Old (put_bound v a)
put_bound v (Not a) = Not (put_bound v a)
put_bound v (Binary op a b) = Binary op (put_bound v a) (put_bound v b)

-- whether all of some expressions are true
abbrev pub each : List Expr → Expr
each [] = Number 1
each (e ∷ rest) = Binary Each e (each rest)

-- the numbers from the first to the last; the first alone where the last is below it
abbrev pub values : (low high : ℕ) → List ℕ
values low high = low ∷ from_to (low + 1) (high - low)

-- an `all` written out: whether its expression is true for each number from the first to the last
abbrev pub written_out : (low high : ℕ) → Expr → Expr
written_out low high e = each (map (λ v. put_bound v e) (values low high))
