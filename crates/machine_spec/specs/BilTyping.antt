-- Which expressions and lists of statements have a type, and the first fault of those that have none (A Formal Specification for BIL, typing rules, in this
-- project's profile). A node's own rule comes after the rules of its operands, which are taken in the order of the text; it asks something of one operand after
-- the other, and then that they and the node's numbers fit together. The first thing that is not met is the fault.
use Rattle.std.specs.Prelude.{◌≡◌, ℕ, ◌+◌, ◌-◌, ◌%◌, ◌==◌, ◌^◌, nat_lt, nat_le, min, Bool, true, false, ◌&&◌, if◌then◌else◌, Option, Some, None}
use Rattle.machine_spec.specs.Bil.{BilType, Bits, Memory, BinaryOp, Equal, NotEqual, Less, LessEqual, SignedLess, SignedLessEqual, CastKind, Low, High, Signed, Unsigned, Expression, Var, Constant, Load, Store, Binary, Unary, Cast, Let, Unknown, Choose, Extract, Concat, Statements, Empty, Assign, JumpTo, Raise, Special, While, If, type_of, size, list_size}

-- what a rule asks of an operand: bits of a width, bits of any width, a memory; or that operands and numbers fit together
pub data Need : Type 0 where
  NeedBits : ℕ → Need
  AnyBits : Need
  NeedMemory : Need
  Fits : Need

-- A fault: the number of its node, counted in preorder from 0; what was asked; and the type that was found, of the operand that does not meet it, or of the
-- first operand where none is at fault, or the type that is named where there is no operand.
pub record TypeFault : Type 0 where
  pub place : ℕ
  pub need : Need
  pub found : BilType

-- a type, or a fault
pub data Typed : Type 0 where
  Has : BilType → Typed
  Faulty : TypeFault → Typed

-- a fault of the node of a number, which is 2 ^ 64 - 1 where it is greater
abbrev pub fault : ℕ → Need → BilType → Typed
fault at need found = Faulty (record { place = min at (2 ^ 64 - 1); need = need; found = found })

-- the rule asks for bits of a width
abbrev pub asks_bits : ℕ → ℕ → BilType → Typed → Typed
asks_bits at n (Bits m) rest = if m == n then rest else fault at (NeedBits n) (Bits m)
asks_bits at n Memory rest = fault at (NeedBits n) Memory

-- the rule asks for bits
abbrev pub asks_any : ℕ → BilType → (ℕ → Typed) → Typed
asks_any at (Bits m) rest = rest m
asks_any at Memory rest = fault at AnyBits Memory

-- the rule asks for a memory
abbrev pub asks_memory : ℕ → BilType → Typed → Typed
asks_memory at Memory rest = rest
asks_memory at (Bits m) rest = fault at NeedMemory (Bits m)

-- the rule asks for a type
abbrev pub asks_type : ℕ → BilType → BilType → Typed → Typed
asks_type at (Bits n) t rest = asks_bits at n t rest
asks_type at Memory t rest = asks_memory at t rest

-- the rule asks that operands and numbers fit
abbrev pub asks_fit : ℕ → Bool → BilType → Typed → Typed
asks_fit at true t rest = rest
asks_fit at false t rest = fault at Fits t

-- the operand's type goes on to the rule; a fault of the operand comes first
abbrev pub of_operand : Typed → (BilType → Typed) → Typed
of_operand (Has t) rule = rule t
of_operand (Faulty f) rule = Faulty f

-- bits have a width of 1 to 64
abbrev pub is_width : ℕ → Bool
is_width n = nat_lt 0 n && nat_le n 64

-- the width of a load or a store is a multiple of 8
abbrev pub is_load_width : ℕ → Bool
is_load_width n = is_width n && (n % 8 == 0)

-- a type of the profile
abbrev pub is_type : BilType → Bool
is_type (Bits n) = is_width n
is_type Memory = true

-- the bits of a type, none of a memory
abbrev pub type_width : BilType → ℕ
type_width (Bits n) = n
type_width Memory = 0

-- comparisons have one bit
abbrev pub result_width : BinaryOp → ℕ → ℕ
result_width Equal n = 1
result_width NotEqual n = 1
result_width Less n = 1
result_width LessEqual n = 1
result_width SignedLess n = 1
result_width SignedLessEqual n = 1
result_width o n = n

-- a cast cuts to at most the width that there is, or fills up to at least it
abbrev pub cast_fits : CastKind → (to from : ℕ) → Bool
cast_fits Low m n = nat_le m n
cast_fits High m n = nat_le m n
cast_fits Signed m n = nat_le n m
cast_fits Unsigned m n = nat_le n m

-- unknown bits have their type, and unknown memory has none
abbrev pub unknown_type : ℕ → BilType → Typed
unknown_type at (Bits n) = asks_fit at (is_width n) (Bits n) (Has (Bits n))
unknown_type at Memory = fault at Fits Memory

-- the type of an expression whose first node has the number at, or the fault of its first node in post order whose own rule fails
abbrev pub type_or_fault : ℕ → Expression → Typed
type_or_fault at (Var x) = asks_fit at (is_type (type_of x)) (type_of x) (Has (type_of x))
type_or_fault at (Constant n v) = asks_fit at (is_width n && nat_lt v (2 ^ min n 64)) (Bits n) (Has (Bits n))
type_or_fault at (Load m a e n) =
    of_operand (type_or_fault (at + 1) m) (λ t. of_operand (type_or_fault (at + 1 + size m) a) (λ u.
    asks_memory at t (asks_bits at 32 u (asks_fit at (is_load_width n) t (Has (Bits n))))))
type_or_fault at (Store m a e n v) =
    of_operand (type_or_fault (at + 1) m) (λ t. of_operand (type_or_fault (at + 1 + size m) a)
    (λ u. of_operand (type_or_fault (at + 1 + size m + size a) v) (λ w.
    asks_memory at t (asks_bits at 32 u (asks_bits at n w (asks_fit at (is_load_width n) t (Has Memory)))))))
type_or_fault at (Binary o a b) =
    of_operand (type_or_fault (at + 1) a) (λ t. of_operand (type_or_fault (at + 1 + size a) b) (λ u.
    asks_any at t (λ n. asks_bits at n u (Has (Bits (result_width o n))))))
type_or_fault at (Unary o a) = of_operand (type_or_fault (at + 1) a) (λ t. asks_any at t (λ n. Has (Bits n)))
type_or_fault at (Cast k m a) = of_operand (type_or_fault (at + 1) a) (λ t. asks_any at t (λ n. asks_fit at (cast_fits k m n && is_width m) t (Has (Bits m))))
type_or_fault at (Let x n a b) =
    of_operand (type_or_fault (at + 1) a) (λ t. of_operand (type_or_fault (at + 1 + size a) b) (λ u.
    asks_bits at n t (Has u)))
type_or_fault at (Unknown t) = unknown_type at t
type_or_fault at (Choose c a b) =
    of_operand (type_or_fault (at + 1) c) (λ t. of_operand (type_or_fault (at + 1 + size c) a)
    (λ u. of_operand (type_or_fault (at + 1 + size c + size a) b) (λ w.
    asks_bits at 1 t (asks_type at u w (Has u)))))
type_or_fault at (Extract hi lo a) =
    of_operand (type_or_fault (at + 1) a) (λ t. asks_any at t (λ n. asks_fit at (nat_le lo hi && nat_lt hi n) t (Has (Bits (hi - lo + 1)))))
type_or_fault at (Concat a b) =
    of_operand (type_or_fault (at + 1) a) (λ t. of_operand (type_or_fault (at + 1 + size a) b) (λ u.
    asks_any at t (λ n. asks_any at u (λ m. asks_fit at (nat_le (n + m) 64) t (Has (Bits (n + m)))))))

-- the type, if there is one
abbrev pub type_in : Typed → Option BilType
type_in (Has t) = Some t
type_in (Faulty f) = None

-- the type of an expression
abbrev pub typed : Expression → Option BilType
typed e = type_in (type_or_fault 0 e)

-- the fault, if there is one
abbrev pub fault_in : Typed → Option TypeFault
fault_in (Has t) = None
fault_in (Faulty f) = Some f

-- the first of two faults
abbrev pub or_fault : Option TypeFault → Option TypeFault → Option TypeFault
or_fault None rest = rest
or_fault (Some f) rest = Some f

-- an expression that has to have a type, for the statement at a number
abbrev pub wants : ℕ → BilType → Typed → Option TypeFault
wants at t e = fault_in (of_operand e (λ u. asks_type at t u (Has u)))

-- The first fault of a list whose first statement has the number at. A statement is numbered before what it holds, and its own rule comes after the rules of
-- that.
abbrev pub list_fault : ℕ → Statements → Option TypeFault
list_fault at Empty = None
list_fault at (Assign x e rest) = or_fault (wants at (type_of x) (type_or_fault (at + 1) e)) (list_fault (at + 1 + size e) rest)
list_fault at (JumpTo e rest) = or_fault (wants at (Bits 32) (type_or_fault (at + 1) e)) (list_fault (at + 1 + size e) rest)
list_fault at (Raise n rest) = list_fault (at + 1) rest
list_fault at (Special t rest) = list_fault (at + 1) rest
list_fault at (While e body rest) =
    or_fault (fault_in (type_or_fault (at + 1) e))
    (or_fault (list_fault (at + 1 + size e) body)
    (or_fault (wants at (Bits 1) (type_or_fault (at + 1) e)) (list_fault (at + 1 + size e + list_size body) rest)))
list_fault at (If e a b rest) =
    or_fault (fault_in (type_or_fault (at + 1) e))
    (or_fault (list_fault (at + 1 + size e) a)
    (or_fault (list_fault (at + 1 + size e + list_size a) b)
    (or_fault (wants at (Bits 1) (type_or_fault (at + 1) e)) (list_fault (at + 1 + size e + list_size a + list_size b) rest))))

-- a list is well typed
abbrev pub IsWellTyped : Statements → Type 0
IsWellTyped list = list_fault 0 list ≡ None
