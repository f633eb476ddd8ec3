-- The lists of MUL and MLA (section A3.5).
use Rattle.std.specs.Prelude.{ℕ, Bool, true, false, Option, Some, None}
use Rattle.word_spec.specs.State.{flag_c}
use Rattle.machine_spec.specs.Bil as bil
use Rattle.machine_spec.specs.Bil.{RRegisters, Bits, Expression, Binary, Unknown, Statements, Empty, Assign}
use Rattle.arm_decode.specs.declared.register.Register.{Register}
use Rattle.arm_decode.specs.declared.multiplies.MultiplyFields.{MultiplyFields}
use Rattle.arm_lift_alu.specs.Operands.{own}
use Rattle.arm_lift_alu.specs.Computing.{signs}

-- a product, and what is added to it
abbrev pub product : (rm rs : ℕ) → Option Register → Expression
product m s None = Binary bil.Times (own m) (own s)
product m s (Some r) = Binary bil.Plus (Binary bil.Times (own m) (own s)) (own r.number)

-- N and Z of a register; C is kept, or becomes what nobody knows
abbrev pub flags_from : (set keeps : Bool) → ℕ → Statements
flags_from true false r = signs (own r) (Assign (bil.Flag flag_c) (Unknown (Bits 1)) Empty)
flags_from true true r = signs (own r) Empty
flags_from false keeps r = Empty

-- the list of MUL and MLA
abbrev pub multiplied : (keeps : Bool) → MultiplyFields → Statements
multiplied keeps i = Assign (bil.Register RRegisters i.rd.number) (product i.rm.number i.rs.number i.addend) (flags_from i.sets_flags keeps i.rd.number)
