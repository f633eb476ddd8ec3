-- The trees of the code as the trees of the definitions: what is boxed and listed in memory is seen as a value.
use Rattle.std.specs.Prelude.{List, [], ◌∷◌, string_bytes}
use Rattle.machine_spec.specs.Bil as bil
use Rattle.byte_mem.specs.Views.{endian_of}
use Rattle.bil_ast.specs.declared.names.Bank.{Bank}
use Rattle.bil_ast.specs.declared.names.Bank.TheVariants as bank
use Rattle.bil_ast.specs.declared.names.BilType.{BilType}
use Rattle.bil_ast.specs.declared.names.BilType.TheVariants as type
use Rattle.bil_ast.specs.declared.names.Var.{Var}
use Rattle.bil_ast.specs.declared.names.Var.TheVariants as var
use Rattle.bil_ast.specs.declared.names.BinaryOp.{BinaryOp}
use Rattle.bil_ast.specs.declared.names.BinaryOp.TheVariants as op
use Rattle.bil_ast.specs.declared.names.UnaryOp.{UnaryOp}
use Rattle.bil_ast.specs.declared.names.UnaryOp.TheVariants as one
use Rattle.bil_ast.specs.declared.names.CastKind.{CastKind}
use Rattle.bil_ast.specs.declared.names.CastKind.TheVariants as cast
use Rattle.bil_ast.specs.declared.expressions.Exp.{Exp}
use Rattle.bil_ast.specs.declared.expressions.Exp.TheVariants as exp
use Rattle.bil_ast.specs.declared.statements.Stmt.{Stmt, Row_of-Stmt, end_of-Stmt, more_of-Stmt}
use Rattle.bil_ast.specs.declared.statements.Stmt.TheVariants as stmt

-- a type
abbrev pub bil_type_of : BilType → bil.BilType
bil_type_of (type.Bits n) = bil.Bits n.bits
bil_type_of type.Memory = bil.Memory

-- the registers of a machine
abbrev pub bank_of : Bank → bil.Bank
bank_of bank.XRegisters = bil.XRegisters
bank_of bank.RRegisters = bil.RRegisters

-- a variable
abbrev pub variable_of : Var → bil.BilVariable
variable_of (var.Register b r) = bil.Register (bank_of b) r
variable_of (var.Flag f) = bil.Flag f
variable_of var.Memory = bil.Mem
variable_of (var.Local x) = bil.Local x.number x.width.bits

-- an operator between two words
abbrev pub binary_of : BinaryOp → bil.BinaryOp
binary_of op.Plus = bil.Plus
binary_of op.Minus = bil.Minus
binary_of op.Times = bil.Times
binary_of op.Divide = bil.Divide
binary_of op.SignedDivide = bil.SignedDivide
binary_of op.Modulo = bil.Modulo
binary_of op.SignedModulo = bil.SignedModulo
binary_of op.And = bil.And
binary_of op.Or = bil.Or
binary_of op.Xor = bil.Xor
binary_of op.ShiftLeft = bil.ShiftLeft
binary_of op.ShiftRight = bil.ShiftRight
binary_of op.ShiftSigned = bil.ShiftSigned
binary_of op.Equal = bil.Equal
binary_of op.NotEqual = bil.NotEqual
binary_of op.Less = bil.Less
binary_of op.LessEqual = bil.LessEqual
binary_of op.SignedLess = bil.SignedLess
binary_of op.SignedLessEqual = bil.SignedLessEqual

-- an operator on one word
abbrev pub unary_of : UnaryOp → bil.UnaryOp
unary_of one.Negate = bil.Negate
unary_of one.Not = bil.Not

-- a change of width
abbrev pub cast_of : CastKind → bil.CastKind
cast_of cast.Low = bil.Low
cast_of cast.High = bil.High
cast_of cast.Signed = bil.Signed
cast_of cast.Unsigned = bil.Unsigned

-- an expression
abbrev pub expression : Exp → bil.Expression
expression (exp.Var x) = bil.Var (variable_of x)
expression (exp.Constant w) = bil.Constant w.width w.bits
expression (exp.Load' p m q a e n) = bil.Load (expression m) (expression a) (endian_of e) n.bits
expression (exp.Store' p m q a e n r v) = bil.Store (expression m) (expression a) (endian_of e) n.bits (expression v)
expression (exp.Binary' o p a q b) = bil.Binary (binary_of o) (expression a) (expression b)
expression (exp.Unary' o p a) = bil.Unary (unary_of o) (expression a)
expression (exp.Cast' k n p a) = bil.Cast (cast_of k) n.bits (expression a)
expression (exp.Let' x p a q b) = bil.Let x.number x.width.bits (expression a) (expression b)
expression (exp.Unknown t) = bil.Unknown (bil_type_of t)
expression (exp.Choose' p c q a r b) = bil.Choose (expression c) (expression a) (expression b)
expression (exp.Extract' hi lo p a) = bil.Extract hi lo (expression a)
expression (exp.Concat' p a q b) = bil.Concat (expression a) (expression b)

abbrev mutual
  -- a statement before others
  pub statement : Stmt → bil.Statements → bil.Statements
  statement (stmt.Assign x e) rest = bil.Assign (variable_of x) (expression e) rest
  statement (stmt.Jump e) rest = bil.JumpTo (expression e) rest
  statement (stmt.Raise n) rest = bil.Raise n rest
  statement (stmt.Special t) rest = bil.Special (string_bytes t) rest
  statement (stmt.While' e s a) rest = bil.While (expression e) (block a) rest
  statement (stmt.If' e s a t b) rest = bil.If (expression e) (block a) (block b) rest

  -- the statements of a block, as they stand in a statement
  pub block : {m : _} → Row_of-Stmt m → bil.Statements
  block end_of-Stmt = bil.Empty
  block (more_of-Stmt s rest) = statement s (block rest)

-- a list of statements
abbrev pub statements : List Stmt → bil.Statements
statements [] = bil.Empty
statements (s ∷ rest) = statement s (statements rest)
