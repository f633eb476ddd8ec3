-- What expressions and lists of statements mean (A Formal Specification for BIL, in this project's profile: the results of a division by zero and of overlong
-- shifts, and the meanings of unknown, cpuexn and special, are its own choice). The meaning is a function, so that a list has at most one end.
use Rattle.std.specs.Prelude.{ℕ, ◌≡◌, zero, suc, ◌+◌, ◌-◌, ◌/◌, ◌^◌, ◌<◌, ◌==◌, nat_lt, nat_le, Bool, true, not, if◌then◌else◌, ◌&&◌, bit_and, bit_or, bit_xor, Option, Some, None}
use Rattle.word_spec.specs.Words as words
use Rattle.word_spec.specs.Memory.{Endian, load, store}
use Rattle.word_spec.specs.Memory as memory
use Rattle.word_spec.specs.State as state
use Rattle.machine_spec.specs.Bil.{BilType, Bits, Memory, BilVariable, Register, Flag, Mem, Local, BinaryOp, Plus, Minus, Times, Divide, SignedDivide, Modulo, SignedModulo, And, Or, Xor, ShiftLeft, ShiftRight, ShiftSigned, Equal, NotEqual, Less, LessEqual, SignedLess, SignedLessEqual, UnaryOp, Negate, Not, CastKind, Low, High, Signed, Unsigned, Expression, Var, Constant, Load, Store, Binary, Unary, Cast, Let, Unknown, Choose, Extract, Concat, Statements, Empty, Assign, JumpTo, Raise, Special, While, If, type_of}

-- a word of a width, a memory, or no value, which a well typed expression never has
pub data Value : Type 0 where
  Word : (width value : ℕ) → Value
  Bytes : memory.Memory → Value
  Stuck : Value

-- the variables: the machine's, and the local words by their number and width
pub record Env : Type 0 where
  pub regs : ℕ → ℕ
  pub flags : ℕ → ℕ
  pub mem : memory.Memory
  pub locals : ℕ → ℕ → Value

-- the value of a variable
abbrev pub get : BilVariable → Env → Value
get (Register b r) e = Word 32 (e.regs r)
get (Flag f) e = Word 1 (e.flags f)
get Mem e = Bytes e.mem
get (Local x n) e = e.locals x n

-- the locals with one changed
abbrev pub put_local : (number width value : ℕ) → (ℕ → ℕ → Value) → ℕ → ℕ → Value
put_local x n v f y m = if (y == x) && (m == n) then Word n v else f y m

-- a variable takes a value of its type alone
abbrev pub assign : BilVariable → Value → Env → Option Env
assign (Register b r) (Word n v) e = if n == 32 then Some (record e { regs = state.put e.regs r v }) else None
assign (Register b r) (Bytes m) e = None
assign (Register b r) Stuck e = None
assign (Flag f) (Word n v) e = if n == 1 then Some (record e { flags = state.put e.flags f v }) else None
assign (Flag f) (Bytes m) e = None
assign (Flag f) Stuck e = None
assign Mem (Bytes m) e = Some (record e { mem = m })
assign Mem (Word n v) e = None
assign Mem Stuck e = None
assign (Local x k) (Word n v) e = if n == k then Some (record e { locals = put_local x k v e.locals }) else None
assign (Local x k) (Bytes m) e = None
assign (Local x k) Stuck e = None

-- an operator on two words of a width
abbrev pub on_words : BinaryOp → ℕ → ℕ → ℕ → Value
on_words Plus n a b = Word n (words.add n a b)
on_words Minus n a b = Word n (words.sub n a b)
on_words Times n a b = Word n (words.mul n a b)
on_words Divide n a b = Word n (words.udiv n a b)
on_words SignedDivide n a b = Word n (words.sdiv n a b)
on_words Modulo n a b = Word n (words.urem n a b)
on_words SignedModulo n a b = Word n (words.srem n a b)
on_words And n a b = Word n (bit_and a b)
on_words Or n a b = Word n (bit_or a b)
on_words Xor n a b = Word n (bit_xor a b)
on_words ShiftLeft n a b = Word n (words.shl n a b)
on_words ShiftRight n a b = Word n (words.shr n a b)
on_words ShiftSigned n a b = Word n (words.sar n a b)
on_words Equal n a b = Word 1 (words.bit (a == b))
on_words NotEqual n a b = Word 1 (words.bit (not (a == b)))
on_words Less n a b = Word 1 (words.bit (nat_lt a b))
on_words LessEqual n a b = Word 1 (words.bit (nat_le a b))
on_words SignedLess n a b = Word 1 (words.bit (words.signed_lt n a b))
on_words SignedLessEqual n a b = Word 1 (words.bit (words.signed_le n a b))

-- an operator on two values
abbrev pub binary : BinaryOp → Value → Value → Value
binary o (Word n a) (Word m b) = if n == m then on_words o n a b else Stuck
binary o (Word n a) (Bytes m) = Stuck
binary o (Word n a) Stuck = Stuck
binary o (Bytes m) v = Stuck
binary o Stuck v = Stuck

-- an operator on one value
abbrev pub unary : UnaryOp → Value → Value
unary Negate (Word n a) = Word n (words.neg n a)
unary Not (Word n a) = Word n (words.complement n a)
unary o (Bytes m) = Stuck
unary o Stuck = Stuck

-- a cast to a width
abbrev pub cast_to : CastKind → ℕ → Value → Value
cast_to Low m (Word n a) = if nat_le m n then Word m (words.word m a) else Stuck
cast_to High m (Word n a) = if nat_le m n then Word m (words.high n m a) else Stuck
cast_to Signed m (Word n a) = if nat_le n m then Word m (words.sign_extend n m a) else Stuck
cast_to Unsigned m (Word n a) = if nat_le n m then Word m a else Stuck
cast_to k m (Bytes b) = Stuck
cast_to k m Stuck = Stuck

-- a load of a width in bits
abbrev pub load_from : Endian → ℕ → Value → Value → Value
load_from e n (Bytes m) (Word k a) = if k == 32 then Word n (load e (n / 8) m a) else Stuck
load_from e n (Bytes m) (Bytes b) = Stuck
load_from e n (Bytes m) Stuck = Stuck
load_from e n (Word k a) v = Stuck
load_from e n Stuck v = Stuck

-- a store of a width in bits
abbrev pub store_value : Endian → ℕ → memory.Memory → ℕ → Value → Value
store_value e n m a (Word k v) = if k == n then Bytes (store e (n / 8) m a v) else Stuck
store_value e n m a (Bytes b) = Stuck
store_value e n m a Stuck = Stuck

-- a store into a memory at an address
abbrev pub store_to : Endian → ℕ → Value → Value → Value → Value
store_to e n (Bytes m) (Word k a) v = if k == 32 then store_value e n m a v else Stuck
store_to e n (Bytes m) (Bytes b) v = Stuck
store_to e n (Bytes m) Stuck v = Stuck
store_to e n (Word k a) w v = Stuck
store_to e n Stuck w v = Stuck

-- bits hi to lo
abbrev pub extract_from : ℕ → ℕ → Value → Value
extract_from hi lo (Word n a) = if nat_le lo hi && nat_lt hi n then Word (hi - lo + 1) (words.bits hi lo a) else Stuck
extract_from hi lo (Bytes m) = Stuck
extract_from hi lo Stuck = Stuck

-- the first word above the second
abbrev pub concat_of : Value → Value → Value
concat_of (Word n a) (Word m b) = Word (n + m) (words.concat m a b)
concat_of (Word n a) (Bytes m) = Stuck
concat_of (Word n a) Stuck = Stuck
concat_of (Bytes m) v = Stuck
concat_of Stuck v = Stuck

-- the low n bits of the step's choice; a memory has none
abbrev pub unknown : BilType → ℕ → Value
unknown (Bits n) c = Word n (words.word n c)
unknown Memory c = Stuck

-- the value that a condition of one bit chooses
abbrev pub choose : Value → Value → Value → Value
choose (Word (suc zero) zero) then_part else_part = else_part
choose (Word (suc zero) (suc v)) then_part else_part = then_part
choose c then_part else_part = Stuck

-- a value in an environment, if there is one
abbrev pub in_env : Option Env → (Env → Value) → Value
in_env None f = Stuck
in_env (Some e) f = f e

-- the value of an expression, under the step's choice
abbrev pub evaluate : Expression → ℕ → Env → Value
evaluate (Var x) c e = get x e
evaluate (Constant n v) c e = Word n v
evaluate (Load m a o n) c e = load_from o n (evaluate m c e) (evaluate a c e)
evaluate (Store m a o n v) c e = store_to o n (evaluate m c e) (evaluate a c e) (evaluate v c e)
evaluate (Binary o a b) c e = binary o (evaluate a c e) (evaluate b c e)
evaluate (Unary o a) c e = unary o (evaluate a c e)
evaluate (Cast k n a) c e = cast_to k n (evaluate a c e)
evaluate (Let x n a b) c e = in_env (assign (Local x n) (evaluate a c e) e) (evaluate b c)
evaluate (Unknown t) c e = unknown t c
evaluate (Choose t a b) c e = choose (evaluate t c e) (evaluate a c e) (evaluate b c e)
evaluate (Extract hi lo a) c e = extract_from hi lo (evaluate a c e)
evaluate (Concat a b) c e = concat_of (evaluate a c e) (evaluate b c e)

-- where a list stands: the variables, the last jump made, and how many turns loops may still make, all loops together
pub record Position : Type 0 where
  pub env : Env
  pub jump : Option ℕ
  pub turns : ℕ

-- What a list comes to: it ends; it raises an exception by number; a turn was due and none was left; or it is stuck, which a well typed list never is. The
-- position is the one that the finished statements left.
pub data Ending : Type 0 where
  Ends : Position → Ending
  RaisesException : ℕ → Position → Ending
  OutOfTurns : Position → Ending
  Wrong : Ending

-- what comes after a list that ended
abbrev pub then_do : Ending → (Position → Ending) → Ending
then_do (Ends s) f = f s
then_do (RaisesException n s) f = RaisesException n s
then_do (OutOfTurns s) f = OutOfTurns s
then_do Wrong f = Wrong

-- after an assignment
abbrev pub assigned : Option Env → Position → Ending
assigned None s = Wrong
assigned (Some e) s = Ends (record s { env = e })

-- after a jump, which is the list's if none comes later
abbrev pub jumped : Value → Position → Ending
jumped (Word n v) s = if n == 32 then Ends (record s { jump = Some v }) else Wrong
jumped (Bytes m) s = Wrong
jumped Stuck s = Wrong

-- the part that a condition of one bit chooses
abbrev pub branch_on : Value → Ending → Ending → Ending
branch_on (Word (suc zero) zero) then_part else_part = else_part
branch_on (Word (suc zero) (suc v)) then_part else_part = then_part
branch_on v then_part else_part = Wrong

-- with one turn less, where one is left
abbrev pub spend : ℕ → Position → (Position → Ending) → Ending
spend zero s f = OutOfTurns s
spend (suc t) s f = f (record s { turns = t })

-- A loop: while the condition is 1, a turn is spent and the body done. The first number is at least the turns that are left, so that the recursion ends.
abbrev pub loop : ℕ → (Position → Value) → (Position → Ending) → Position → Ending
loop zero test body s = branch_on (test s) (OutOfTurns s) (Ends s)
loop (suc n) test body s = branch_on (test s) (spend s.turns s (λ t. then_do (body t) (loop n test body))) (Ends s)

-- what a list of statements does
abbrev pub execute : Statements → ℕ → Position → Ending
execute Empty c s = Ends s
execute (Assign x e rest) c s = then_do (assigned (assign x (evaluate e c s.env) s.env) s) (execute rest c)
execute (JumpTo e rest) c s = then_do (jumped (evaluate e c s.env) s) (execute rest c)
execute (Raise n rest) c s = RaisesException n s
execute (Special t rest) c s = execute rest c s
execute (While e body rest) c s = then_do (loop s.turns (λ t. evaluate e c t.env) (execute body c) s) (execute rest c)
execute (If e a b rest) c s = then_do (branch_on (evaluate e c s.env) (execute a c s) (execute b c s)) (execute rest c)

-- a value of a type
abbrev pub IsOfType : BilType → Value → Type 0
IsOfType (Bits n) (Word m v) = (n ≡ m) × (v < 2 ^ n)
IsOfType Memory (Bytes m) = (a : ℕ) → m a < 256
IsOfType (Bits n) (Bytes m) = ⊥
IsOfType (Bits n) Stuck = ⊥
IsOfType Memory (Word m v) = ⊥
IsOfType Memory Stuck = ⊥

-- the environment has for each variable that is known a value of its type
pub record HoldsVariables (known : BilVariable → Bool) (e : Env) : Type 0 where
  pub variable : (x : BilVariable) → known x ≡ true → IsOfType (type_of x) (get x e)
