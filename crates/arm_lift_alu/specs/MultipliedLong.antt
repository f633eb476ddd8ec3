-- The lists of UMULL, UMLAL, SMULL and SMLAL (section A3.5).
use Rattle.std.specs.Prelude.{ℕ, ◌==◌, Bool, true, false}
use Rattle.word_spec.specs.State.{flag_n, flag_z, flag_c, flag_v}
use Rattle.machine_spec.specs.Bil as bil
use Rattle.machine_spec.specs.Bil.{RRegisters, Bits, Expression, Constant, Binary, Cast, Unknown, Extract, Concat, Statements, Empty, Assign}
use Rattle.arm_decode.specs.declared.long_multiplies.MultiplyLongFields.{MultiplyLongFields}
use Rattle.arm_lift_alu.specs.Operands.{own, bit_of}

-- a register's word in 64 bits, with its sign or without
abbrev pub wide : (is_signed : Bool) → ℕ → Expression
wide true r = Cast bil.Signed 64 (own r)
wide false r = Cast bil.Unsigned 64 (own r)

-- the product of two registers
abbrev pub long_product : (is_signed : Bool) → (m s : ℕ) → Expression
long_product k m s = Binary bil.Times (wide k m) (wide k s)

-- its lower half
abbrev pub lower_product : (m s : ℕ) → Expression
lower_product m s = Binary bil.Times (own m) (own s)

-- the lower half of the result
abbrev pub lower : (adds : Bool) → (d m s : ℕ) → Expression
lower true d m s = Binary bil.Plus (lower_product m s) (own d)
lower false d m s = lower_product m s

-- the upper half of the result, from what the lower register was
abbrev pub upper : (adds is_signed : Bool) → (n m s : ℕ) → (was : Expression) → Expression
upper true k n m s was = Extract 63 32 (Binary bil.Plus (long_product k m s) (Concat (own n) was))
upper false k n m s was = Extract 63 32 (long_product k m s)

-- what the lower register was, found again from the lower half of the result
abbrev pub was_lower : (d m s : ℕ) → Expression
was_lower d m s = Binary bil.Minus (own d) (lower_product m s)

-- N and Z of both registers
abbrev pub long_signs : (n d : ℕ) → Statements → Statements
long_signs n d rest = Assign (bil.Flag flag_n) (bit_of 31 (own n)) (Assign (bil.Flag flag_z) (Binary bil.Equal (Concat (own n) (own d)) (Constant 64 0)) rest)

-- C and V become what nobody knows
abbrev pub long_unknown : Statements → Statements
long_unknown rest = Assign (bil.Flag flag_c) (Unknown (Bits 1)) (Assign (bil.Flag flag_v) (bit_of 1 (Unknown (Bits 2))) rest)

-- N and Z of both registers; C and V are kept, or become what nobody knows
abbrev pub long_flags : (set keeps : Bool) → (n d : ℕ) → Statements → Statements
long_flags true false n d rest = long_signs n d (long_unknown rest)
long_flags true true n d rest = long_signs n d rest
long_flags false keeps n d rest = rest

-- Both registers are written, and then others. The one that is written first is not read again: the lower one, where the upper one is a factor.
abbrev pub both : (lower_first adds is_signed : Bool) → (n d m s : ℕ) → Statements → Statements
both false adds k n d m s rest =
    Assign (bil.Register RRegisters n) (upper adds k n m s (own d)) (Assign (bil.Register RRegisters d) (lower adds d m s) rest)
both true adds k n d m s rest =
    Assign (bil.Register RRegisters d) (lower adds d m s) (Assign (bil.Register RRegisters n) (upper adds k n m s (was_lower d m s)) rest)

-- the list of a long multiply
abbrev pub multiplied_long : (keeps : Bool) → MultiplyLongFields → Statements
multiplied_long keeps i =
    let n = i.upper.number in
    let d = i.lower.number in
    both (i.rs.number == n) i.accumulates i.is_signed n d i.rm.number i.rs.number (long_flags i.sets_flags keeps n d Empty)
