-- The types of notes, as definitions see them.
use Rattle.std.specs.Prelude.{ℕ}
use Rattle.bilv_spec.specs.Notes as notes
use Rattle.notes_value.specs.declared.expressions.Operator.{Operator}
use Rattle.notes_value.specs.declared.expressions.Operator.TheVariants as operator
use Rattle.notes_value.specs.declared.expressions.Size.{Size}
use Rattle.notes_value.specs.declared.expressions.Size.TheVariants as size
use Rattle.notes_value.specs.declared.expressions.Expr.{Expr}
use Rattle.notes_value.specs.declared.expressions.Expr.TheVariants as expr

-- a binary operator
abbrev pub op_of : Operator → notes.Op
op_of operator.Or = notes.Or
op_of operator.And = notes.And
op_of operator.Equal = notes.Equal
op_of operator.NotEqual = notes.NotEqual
op_of operator.Below = notes.Below
op_of operator.AtMost = notes.AtMost
op_of operator.Above = notes.Above
op_of operator.AtLeast = notes.AtLeast
op_of operator.SignedBelow = notes.SignedBelow
op_of operator.SignedAtMost = notes.SignedAtMost
op_of operator.SignedAbove = notes.SignedAbove
op_of operator.SignedAtLeast = notes.SignedAtLeast
op_of operator.BitOr = notes.BitOr
op_of operator.BitXor = notes.BitXor
op_of operator.BitAnd = notes.BitAnd
op_of operator.ShiftLeft = notes.ShiftLeft
op_of operator.ShiftRight = notes.ShiftRight
op_of operator.ShiftSigned = notes.ShiftSigned
op_of operator.Plus = notes.Plus
op_of operator.Minus = notes.Minus
op_of operator.Times = notes.Times

-- how many bytes a load has
abbrev pub bytes_of : Size → ℕ
bytes_of size.Byte = 1
bytes_of size.Half = 2
bytes_of size.Word = 4

-- an expression; an `all` is written out
abbrev pub expr_of : Expr → notes.Expr
expr_of (expr.Number n) = notes.Number n
expr_of (expr.Register r) = notes.Register r
expr_of (expr.Flag f) = notes.Flag f
expr_of expr.Pc = notes.Pc
expr_of expr.Bound = notes.Bound
expr_of (expr.Memory' n p a) = notes.Memory (bytes_of n) (expr_of a)
expr_of (expr.Old' p a) = notes.Old (expr_of a)
expr_of (expr.Not' p a) = notes.Not (expr_of a)
expr_of (expr.Binary' op p a q b) = notes.Binary (op_of op) (expr_of a) (expr_of b)
expr_of (expr.All' low high p a) = notes.written_out low high (expr_of a)
