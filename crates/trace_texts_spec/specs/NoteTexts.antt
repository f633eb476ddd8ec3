-- The text of an expression of notes. It has no more round brackets than it needs; an `all` is told by its first instance.
use Rattle.std.specs.Prelude.{ℕ, ◌+◌, ◌==◌, nat_lt, nat_le, if◌then◌else◌, List, ◌++◌, codes}
use Rattle.word_spec.specs.Texts.{word_text, number_text}
use Rattle.machine_spec.specs.BilText.{bracketed, flag_text}
use Rattle.bilv_spec.specs.Notes.{Op, Or, And, Equal, NotEqual, Below, AtMost, Above, AtLeast, SignedBelow, SignedAtMost, SignedAbove, SignedAtLeast, BitOr, BitXor, BitAnd, ShiftLeft, ShiftRight, ShiftSigned, Plus, Minus, Times, Each, Expr, Number, Register, Flag, Pc, Bound, Memory, Old, Not, Binary}
use Rattle.trace_texts_spec.specs.Names.{Names, register_name}

-- how tightly an operator binds, from `or` on
abbrev pub level_of : Op → ℕ
level_of Or = 1
level_of And = 2
level_of Equal = 4
level_of NotEqual = 4
level_of Below = 4
level_of AtMost = 4
level_of Above = 4
level_of AtLeast = 4
level_of SignedBelow = 4
level_of SignedAtMost = 4
level_of SignedAbove = 4
level_of SignedAtLeast = 4
level_of BitOr = 5
level_of BitXor = 6
level_of BitAnd = 7
level_of ShiftLeft = 8
level_of ShiftRight = 8
level_of ShiftSigned = 8
level_of Plus = 9
level_of Minus = 9
level_of Times = 10
level_of Each = 1

-- the word or sign of an operator
abbrev pub op_text : Op → List ℕ
op_text Or = codes "or"
op_text And = codes "and"
op_text Equal = codes "="
op_text NotEqual = codes "!="
op_text Below = codes "<u"
op_text AtMost = codes "<=u"
op_text Above = codes ">u"
op_text AtLeast = codes ">=u"
op_text SignedBelow = codes "<s"
op_text SignedAtMost = codes "<=s"
op_text SignedAbove = codes ">s"
op_text SignedAtLeast = codes ">=s"
op_text BitOr = codes "|"
op_text BitXor = codes "^"
op_text BitAnd = codes "&"
op_text ShiftLeft = codes "<<"
op_text ShiftRight = codes ">>"
op_text ShiftSigned = codes ">>>"
op_text Plus = codes "+"
op_text Minus = codes "-"
op_text Times = codes "*"
op_text Each = codes "all"

-- the level that a left operand has at least: operators group to the left, but a comparison takes no comparison
abbrev pub left_level : Op → ℕ
left_level Or = 1
left_level And = 2
left_level Equal = 5
left_level NotEqual = 5
left_level Below = 5
left_level AtMost = 5
left_level Above = 5
left_level AtLeast = 5
left_level SignedBelow = 5
left_level SignedAtMost = 5
left_level SignedAbove = 5
left_level SignedAtLeast = 5
left_level BitOr = 5
left_level BitXor = 6
left_level BitAnd = 7
left_level ShiftLeft = 8
left_level ShiftRight = 8
left_level ShiftSigned = 8
left_level Plus = 9
left_level Minus = 9
left_level Times = 10
left_level Each = 1

-- a number: a small one in decimal digits
abbrev pub plain_number : ℕ → List ℕ
plain_number n = if nat_lt n 1024 then number_text n else word_text n

-- the word of a load of so many bytes, with its bracket
abbrev pub load_text : ℕ → List ℕ
load_text n = if n == 1 then codes "mem8[" else if n == 2 then codes "mem16[" else codes "mem32["

-- operands with the operator between them
abbrev pub between : Op → (a b : List ℕ) → List ℕ
between op a b = a ++ codes " " ++ op_text op ++ codes " " ++ b

-- so where an operand of a level is to stand; of an `all` the first instance alone
abbrev pub binary_text : (level : ℕ) → Op → (a b : List ℕ) → List ℕ
binary_text level Each a b = codes "all(" ++ a ++ codes ", ..)"
binary_text level op a b = bracketed (nat_le level (level_of op)) (between op a b)

-- the text where an operand of a level is to stand: 1 where any expression may
abbrev pub text_at : Names → (level : ℕ) → Expr → List ℕ
text_at n level (Number v) = plain_number v
text_at n level (Register r) = register_name n r
text_at n level (Flag f) = flag_text f
text_at n level Pc = codes "pc"
text_at n level Bound = plain_number 0
text_at n level (Memory k a) = load_text k ++ text_at n 1 a ++ codes "]"
text_at n level (Old a) = codes "old(" ++ text_at n 1 a ++ codes ")"
text_at n level (Not a) = bracketed (nat_le level 3) (codes "not " ++ text_at n 3 a)
text_at n level (Binary op a b) = binary_text level op (text_at n (left_level op) a) (text_at n (level_of op + 1) b)
