-- Lists in which the load of a word that is known is its constant.
use Rattle.std.specs.Prelude.{ℕ, ◌≡◌, ◌==◌, ◌&&◌, Bool, true, false, if◌then◌else◌}
use Rattle.word_spec.specs.Memory.{Endian, Memory, load}
use Rattle.machine_spec.specs.Bil.{Mem, Expression, Var, Constant, Load, Store, Binary, Unary, Cast, Let, Unknown, Choose, Extract, Concat, Statements, Empty, Assign, JumpTo, Raise, Special, While, If}
use Rattle.machine_spec.specs.BilCounts.{own_other_loads, byte_stores, has_no_loop}
use Rattle.machine_spec.specs.BilMeaning.{Value, Word, Bytes, Stuck, Position, execute}

-- the load is that of the word at an address, in a byte order, out of the machine's memory
abbrev pub is_load_of : Endian → (address : ℕ) → (memory at : Expression) → Endian → (width : ℕ) → Bool
is_load_of e a m b f n = own_other_loads e a (Load m b f n) == 0

-- the expression is the machine's memory
abbrev pub is_memory : Expression → Bool
is_memory (Var Mem) = true
is_memory x = false

-- the expression is a constant of 32 bits with the value
abbrev pub is_constant : ℕ → Expression → Bool
is_constant a (Constant w v) = (w == 32) && (v == a)
is_constant a x = false

-- the expression with a value for each load of the word at an address
abbrev pub put_literal : Endian → (address value : ℕ) → Expression → Expression
put_literal e a v (Var x) = Var x
put_literal e a v (Constant n w) = Constant n w
put_literal e a v (Load m b f n) = if is_load_of e a m b f n then Constant 32 v else Load (put_literal e a v m) (put_literal e a v b) f n
put_literal e a v (Store m b f n w) = Store (put_literal e a v m) (put_literal e a v b) f n (put_literal e a v w)
put_literal e a v (Binary o x y) = Binary o (put_literal e a v x) (put_literal e a v y)
put_literal e a v (Unary o x) = Unary o (put_literal e a v x)
put_literal e a v (Cast k n x) = Cast k n (put_literal e a v x)
put_literal e a v (Let y n x b) = Let y n (put_literal e a v x) (put_literal e a v b)
put_literal e a v (Unknown t) = Unknown t
put_literal e a v (Choose c x y) = Choose (put_literal e a v c) (put_literal e a v x) (put_literal e a v y)
put_literal e a v (Extract hi lo x) = Extract hi lo (put_literal e a v x)
put_literal e a v (Concat x y) = Concat (put_literal e a v x) (put_literal e a v y)

-- the list with a value for each load of the word at an address
abbrev pub with_literal : Endian → (address value : ℕ) → Statements → Statements
with_literal e a v Empty = Empty
with_literal e a v (Assign x w rest) = Assign x (put_literal e a v w) (with_literal e a v rest)
with_literal e a v (JumpTo w rest) = JumpTo (put_literal e a v w) (with_literal e a v rest)
with_literal e a v (Raise n rest) = Raise n (with_literal e a v rest)
with_literal e a v (Special t rest) = Special t (with_literal e a v rest)
with_literal e a v (While w body rest) = While (put_literal e a v w) (with_literal e a v body) (with_literal e a v rest)
with_literal e a v (If w x y rest) = If (put_literal e a v w) (with_literal e a v x) (with_literal e a v y) (with_literal e a v rest)

-- the value is no memory but this one
abbrev pub IsNoOther : Memory → Value → Type 0
IsNoOther m (Word n v) = Unit {0}
IsNoOther m (Bytes b) = b ≡ m
IsNoOther m Stuck = Unit {0}

-- A list without loops that stores nothing does the same with the value, where the memory has it at the address.
abbrev pub LiteralsKeepMeaning : Type 0
LiteralsKeepMeaning = (e : Endian) (a v : ℕ) (list : Statements) (c : ℕ) (s : Position) → has_no_loop list ≡ true → byte_stores list ≡ 0 →
    load e 4 s.env.mem a ≡ v → ((x n : ℕ) → IsNoOther s.env.mem (s.env.locals x n)) → execute (with_literal e a v list) c s ≡ execute list c s
