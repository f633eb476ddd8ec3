-- What formulas make of two words of 32 bits, and their expressions.
use Rattle.std.specs.Prelude.{ℕ, ◌*◌}
use Rattle.machine_spec.specs.Rv.{wide, low_five, upper}
use Rattle.machine_spec.specs.Bil.{Expression, Constant, Binary, Cast, Extract, CastKind}
use Rattle.machine_spec.specs.Bil as bil
use Rattle.machine_spec.specs.BilMeaning.{Value, Word, Bytes, Stuck, on_words}
use Rattle.machine_spec.specs.BilTyping.{result_width}
use Rattle.bil_ast.specs.Views.{binary_of}
use Rattle.word_formula.specs.declared.formula.Extension.{Extension}
use Rattle.word_formula.specs.declared.formula.Extension.TheVariants.{Signed, Unsigned}
use Rattle.word_formula.specs.declared.formula.Formula.{Formula}
use Rattle.word_formula.specs.declared.formula.Formula.TheVariants.{Operator, Truth, Shift, Upper}

-- the number of a word
abbrev pub word_part : Value → ℕ
word_part (Word n v) = v
word_part (Bytes m) = 0
word_part Stuck = 0

-- what an operator makes of two words
abbrev pub operate : bil.BinaryOp → ℕ → ℕ → ℕ
operate o a b = word_part (on_words o 32 a b)

-- a word in 64 bits
abbrev pub extended : Extension → ℕ → ℕ
extended Signed a = wide a
extended Unsigned a = a

abbrev pub cast_by : Extension → CastKind
cast_by Signed = bil.Signed
cast_by Unsigned = bil.Unsigned

-- what a formula makes of two words
abbrev pub value : Formula → ℕ → ℕ → ℕ
value (Operator o) a b = operate (binary_of o) a b
value (Truth o) a b = operate (binary_of o) a b
value (Shift o) a b = operate (binary_of o) a (low_five b)
value (Upper j k) a b = upper (extended j a * extended k b)

-- the low five bits
abbrev pub amount : Expression → Expression
amount b = Binary bil.And b (Constant 32 31)

-- the upper half of a product of two words in 64 bits
abbrev pub product : Extension → Expression → Extension → Expression → Expression
product j a k b = Extract 63 32 (Binary bil.Times (Cast (cast_by j) 64 a) (Cast (cast_by k) 64 b))

-- the expression of a formula
abbrev pub expression_of : Formula → Expression → Expression → Expression
expression_of (Operator o) a b = Binary (binary_of o) a b
expression_of (Truth o) a b = Cast bil.Unsigned 32 (Binary (binary_of o) a b)
expression_of (Shift o) a b = Binary (binary_of o) a (amount b)
expression_of (Upper j k) a b = product j a k b

-- its width
abbrev pub width_of : Formula → ℕ
width_of (Operator o) = result_width (binary_of o) 32
width_of (Truth o) = 32
width_of (Shift o) = result_width (binary_of o) 32
width_of (Upper j k) = 32
