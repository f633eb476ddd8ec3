-- The list that each instruction is lifted to.
use Rattle.std.specs.Prelude.{ℕ, Bool, true, false}
use Rattle.word_spec.specs.State.{flag_n, flag_z, flag_c, flag_v}
use Rattle.machine_spec.specs.Bil as bil
use Rattle.machine_spec.specs.Bil.{RRegisters, Expression, Var, Constant, Binary, Unary, Cast, Extract, Concat, Statements, Empty, Assign, JumpTo, Raise, If}
use Rattle.arm_decode.specs.declared.parts.Condition.{Condition}
use Rattle.arm_decode.specs.declared.parts.Condition.TheVariants.{Eq, Ne, Cs, Cc, Mi, Pl, Vs, Vc, Hi, Ls, Ge, Lt, Gt, Le, Al}

-- a word
abbrev pub number : ℕ → Expression
number v = Constant 32 v

-- a flag
abbrev pub flag : ℕ → Expression
flag f = Var (bil.Flag f)

-- C is set and Z is not
abbrev pub higher : Expression
higher = Binary bil.And (flag flag_c) (Unary bil.Not (flag flag_z))

-- N is V
abbrev pub greater_or_equal : Expression
greater_or_equal = Binary bil.Equal (flag flag_n) (flag flag_v)

-- Z is not set and N is V
abbrev pub greater : Expression
greater = Binary bil.And (Unary bil.Not (flag flag_z)) greater_or_equal

-- what a condition tests (section A3.2)
abbrev pub test : Condition → Expression
test Eq = flag flag_z
test Ne = Unary bil.Not (flag flag_z)
test Cs = flag flag_c
test Cc = Unary bil.Not (flag flag_c)
test Mi = flag flag_n
test Pl = Unary bil.Not (flag flag_n)
test Vs = flag flag_v
test Vc = Unary bil.Not (flag flag_v)
test Hi = higher
test Ls = Unary bil.Not higher
test Ge = greater_or_equal
test Lt = Binary bil.NotEqual (flag flag_n) (flag flag_v)
test Gt = greater
test Le = Unary bil.Not greater
test Al = Constant 1 1

-- a list is done where a condition holds
abbrev pub conditional : Condition → Statements → Statements
conditional Al list = list
conditional k list = If (test k) list Empty Empty

-- the list of B and BL, from the target and the address behind (section A3.3)
abbrev pub branch : (linked : Bool) → (target behind : ℕ) → Statements
branch true to behind = JumpTo (number to) (Assign (bil.Register RRegisters 14) (number behind) Empty)
branch false to behind = JumpTo (number to) Empty

-- the list of BX (section A4.1.10): the address is taken as it is
abbrev pub exchange : ℕ → Statements
exchange m = JumpTo (Var (bil.Register RRegisters m)) Empty

-- the list of SWI (section A3.14)
abbrev pub software_interrupt : Statements
software_interrupt = Raise 3 Empty
