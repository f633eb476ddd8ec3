-- The text of expressions and of lists of statements (A Formal Specification for BIL, in this project's profile).
use Rattle.std.specs.Prelude.{ℕ, zero, suc, Bool, true, false, List, [], ◌∷◌, ◌++◌, codes}
use Rattle.std.specs.Fmt.{digits}
use Rattle.word_spec.specs.Memory.{Endian, Little, Big}
use Rattle.machine_spec.specs.Bil.{BilType, Bits, Memory, Bank, XRegisters, RRegisters, BilVariable, Register, Flag, Mem, Local, BinaryOp, Plus, Minus, Times, Divide, SignedDivide, Modulo, SignedModulo, And, Or, Xor, ShiftLeft, ShiftRight, ShiftSigned, Equal, NotEqual, Less, LessEqual, SignedLess, SignedLessEqual, UnaryOp, Negate, Not, CastKind, Low, High, Signed, Unsigned, Expression, Var, Constant, Load, Store, Binary, Unary, Cast, Let, Unknown, Choose, Extract, Concat, Statements, Empty, Assign, JumpTo, Raise, Special, While, If}
use Rattle.machine_spec.specs.BilTyping.{type_width}
use Rattle.word_spec.specs.Texts.{number_text, line}

-- the letter that a machine's registers begin with
abbrev pub bank_text : Bank → List ℕ
bank_text XRegisters = codes "x"
bank_text RRegisters = codes "r"

-- the letter of a flag, by its number: N 3, Z 2, C 1, V 0
abbrev pub flag_text : ℕ → List ℕ
flag_text zero = codes "V"
flag_text (suc zero) = codes "C"
flag_text (suc (suc zero)) = codes "Z"
flag_text (suc (suc (suc n))) = codes "N"

-- a type
abbrev pub type_text : BilType → List ℕ
type_text (Bits n) = codes "imm<" ++ number_text n ++ codes ">"
type_text Memory = codes "mem<32,8>"

-- the name of a local, by its number and width
abbrev pub local_text : ℕ → ℕ → List ℕ
local_text x n = codes "v" ++ number_text x ++ codes "_" ++ number_text n

-- a variable
abbrev pub variable_text : BilVariable → List ℕ
variable_text (Register b r) = bank_text b ++ number_text r
variable_text (Flag f) = flag_text f
variable_text Mem = codes "mem"
variable_text (Local x n) = local_text x n

-- an operator between its operands
abbrev pub binary_text : BinaryOp → List ℕ
binary_text Plus = codes "+"
binary_text Minus = codes "-"
binary_text Times = codes "*"
binary_text Divide = codes "/"
binary_text SignedDivide = codes "sdiv"
binary_text Modulo = codes "%"
binary_text SignedModulo = codes "smod"
binary_text And = codes "&"
binary_text Or = codes "|"
binary_text Xor = codes "^"
binary_text ShiftLeft = codes "<<"
binary_text ShiftRight = codes ">>"
binary_text ShiftSigned = codes "~>>"
binary_text Equal = codes "="
binary_text NotEqual = codes "<>"
binary_text Less = codes "<"
binary_text LessEqual = codes "<="
binary_text SignedLess = codes "s<"
binary_text SignedLessEqual = codes "s<="

-- an operator before its operand
abbrev pub unary_text : UnaryOp → List ℕ
unary_text Negate = codes "-"
unary_text Not = codes "~"

-- a cast
abbrev pub cast_text : CastKind → List ℕ
cast_text Low = codes "low"
cast_text High = codes "high"
cast_text Signed = codes "signed"
cast_text Unsigned = codes "unsigned"

-- a byte order
abbrev pub endian_text : Endian → List ℕ
endian_text Little = codes "el"
endian_text Big = codes "be"

-- the unknown bits of a type: its name, and how many they are (none of a memory)
abbrev pub unknown_text : BilType → List ℕ
unknown_text t = codes "unknown[" ++ type_text t ++ codes "]:" ++ number_text (type_width t)

-- An operand needs no round brackets where it is a variable, a constant, or of a form that has its square brackets at its end: a load, a cast, an extract or an
-- unknown.
abbrev pub stands_alone : Expression → Bool
stands_alone (Var x) = true
stands_alone (Constant n v) = true
stands_alone (Load m a e n) = true
stands_alone (Cast k n a) = true
stands_alone (Unknown t) = true
stands_alone (Extract hi lo a) = true
stands_alone (Store m a e n v) = false
stands_alone (Binary o a b) = false
stands_alone (Unary o a) = false
stands_alone (Let x n a b) = false
stands_alone (Choose c a b) = false
stands_alone (Concat a b) = false

-- a text in round brackets, unless it stands alone
abbrev pub bracketed : Bool → List ℕ → List ℕ
bracketed true text = text
bracketed false text = codes "(" ++ text ++ codes ")"

-- the text of an expression; what stands in square brackets is no operand, and takes no round ones
abbrev pub text_of : Expression → List ℕ
text_of (Var x) = variable_text x
text_of (Constant n v) = codes "0x" ++ digits 16 false v ++ codes ":" ++ number_text n
text_of (Load m a e n) =
    bracketed (stands_alone m) (text_of m) ++ codes "[" ++ text_of a ++ codes ", " ++ endian_text e ++ codes "]:" ++ number_text n
text_of (Store m a e n v) =
    bracketed (stands_alone m) (text_of m) ++ codes " with [" ++ text_of a ++ codes ", " ++ endian_text e ++ codes "]:" ++ number_text n ++ codes " <- "
    ++ bracketed (stands_alone v) (text_of v)
text_of (Binary o a b) = bracketed (stands_alone a) (text_of a) ++ codes " " ++ binary_text o ++ codes " " ++ bracketed (stands_alone b) (text_of b)
text_of (Unary o a) = unary_text o ++ bracketed (stands_alone a) (text_of a)
text_of (Cast k n a) = cast_text k ++ codes ":" ++ number_text n ++ codes "[" ++ text_of a ++ codes "]"
text_of (Let x n a b) =
    codes "let " ++ local_text x n ++ codes " = " ++ bracketed (stands_alone a) (text_of a) ++ codes " in " ++ bracketed (stands_alone b) (text_of b)
text_of (Unknown t) = unknown_text t
text_of (Choose c a b) =
    codes "if " ++ bracketed (stands_alone c) (text_of c) ++ codes " then " ++ bracketed (stands_alone a) (text_of a)
    ++ codes " else " ++ bracketed (stands_alone b) (text_of b)
text_of (Extract hi lo a) = codes "extract:" ++ number_text hi ++ codes ":" ++ number_text lo ++ codes "[" ++ text_of a ++ codes "]"
text_of (Concat a b) = bracketed (stands_alone a) (text_of a) ++ codes " @ " ++ bracketed (stands_alone b) (text_of b)

-- two blanks for each depth
abbrev pub indent : ℕ → List ℕ
indent zero = []
indent (suc n) = 32 ∷ 32 ∷ indent n

-- a line at a depth
abbrev pub line_at : ℕ → List ℕ → List ℕ
line_at depth text = line (indent depth ++ text)

-- the text of a list at a depth: one statement a line, a block's opening and closing on lines of their own
abbrev pub list_text : ℕ → Statements → List ℕ
list_text depth Empty = []
list_text depth (Assign x e rest) = line_at depth (variable_text x ++ codes " := " ++ text_of e) ++ list_text depth rest
list_text depth (JumpTo e rest) = line_at depth (codes "jmp " ++ text_of e) ++ list_text depth rest
list_text depth (Raise n rest) = line_at depth (codes "cpuexn (" ++ number_text n ++ codes ")") ++ list_text depth rest
list_text depth (Special t rest) = line_at depth (codes "special (" ++ t ++ codes ")") ++ list_text depth rest
list_text depth (While e body rest) =
    line_at depth (codes "while " ++ text_of e ++ codes " {") ++ list_text (suc depth) body ++ line_at depth (codes "}") ++ list_text depth rest
list_text depth (If e a b rest) =
    line_at depth (codes "if " ++ text_of e ++ codes " {") ++ list_text (suc depth) a ++ line_at depth (codes "} else {")
    ++ list_text (suc depth) b ++ line_at depth (codes "}") ++ list_text depth rest
