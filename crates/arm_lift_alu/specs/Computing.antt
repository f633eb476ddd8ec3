-- The lists of data processing (section A3.4).
use Rattle.std.specs.Prelude.{ℕ, ◌==◌, ◌||◌, not, Bool, true, false, ◌&&◌}
use Rattle.word_spec.specs.State.{flag_n, flag_z, flag_c, flag_v}
use Rattle.machine_spec.specs.Bil as bil
use Rattle.machine_spec.specs.Bil.{RRegisters, Expression, Var, Constant, Binary, Unary, Cast, Extract, Statements, Empty, Assign, JumpTo, If}
use Rattle.arm_decode.specs.declared.parts.Opcode.{Opcode}
use Rattle.arm_decode.specs.declared.parts.Opcode.TheVariants.{And, Eor, Sub, Rsb, Add, Adc, Sbc, Rsc, Tst, Teq, Cmp, Cmn, Orr, Mov, Bic, Mvn}
use Rattle.arm_decode.specs.declared.data.ComputingFields.{ComputingFields}
pub use Rattle.arm_decode.specs.Parts.{is_test, is_logical, adds_carry}
use Rattle.arm_lift_alu.specs.declared.shifter.CarryIn.{CarryIn}
use Rattle.arm_lift_alu.specs.declared.shifter.CarryIn.TheVariants.{Clear, Set, Flag}
use Rattle.arm_lift_alu.specs.Lifted.{number, flag}
use Rattle.arm_lift_alu.specs.Operands.{carry_bit, own, register, operand, shifter_carry, keeps_carry, is_rrx, bit_of}

-- each bit turned
abbrev pub turned : Expression → Expression
turned e = Unary bil.Not e

-- a sum with the carry that comes in
abbrev pub with_carry : CarryIn → Expression → Expression → Expression
with_carry k x y = Binary bil.Plus (Binary bil.Plus x y) (Cast bil.Unsigned 32 (carry_bit k))

-- the value of an opcode
abbrev pub value : Opcode → CarryIn → Expression → Expression → Expression
value And k x y = Binary bil.And x y
value Eor k x y = Binary bil.Xor x y
value Sub k x y = Binary bil.Minus x y
value Rsb k x y = Binary bil.Minus y x
value Add k x y = Binary bil.Plus x y
value Adc k x y = with_carry k x y
value Sbc k x y = with_carry k x (turned y)
value Rsc k x y = with_carry k y (turned x)
value Tst k x y = Binary bil.And x y
value Teq k x y = Binary bil.Xor x y
value Cmp k x y = Binary bil.Minus x y
value Cmn k x y = Binary bil.Plus x y
value Orr k x y = Binary bil.Or x y
value Mov k x y = y
value Bic k x y = Binary bil.And x (turned y)
value Mvn k x y = turned y

-- a word in 33 bits
abbrev pub long : Expression → Expression
long e = Cast bil.Unsigned 33 e

-- the carry out of a sum with the carry that comes in
abbrev pub carry_out : CarryIn → Expression → Expression → Expression
carry_out k x y = bit_of 32 (Binary bil.Plus (Binary bil.Plus (long x) (long y)) (long (carry_bit k)))

-- the carry of an opcode: of a difference it is that there is no borrow; of a logical opcode it is the shifter's
abbrev pub carry : Opcode → CarryIn → Expression → Expression → (shifter : Expression) → Expression
carry Sub k x y c = Binary bil.LessEqual y x
carry Rsb k x y c = Binary bil.LessEqual x y
carry Add k x y c = Binary bil.Less (Binary bil.Plus x y) x
carry Adc k x y c = carry_out k x y
carry Sbc k x y c = carry_out k x (turned y)
carry Rsc k x y c = carry_out k y (turned x)
carry Cmp k x y c = Binary bil.LessEqual y x
carry Cmn k x y c = Binary bil.Less (Binary bil.Plus x y) x
carry And k x y c = c
carry Eor k x y c = c
carry Tst k x y c = c
carry Teq k x y c = c
carry Orr k x y c = c
carry Mov k x y c = c
carry Bic k x y c = c
carry Mvn k x y c = c

-- a word in 33 bits, with its sign
abbrev pub signed : Expression → Expression
signed e = Cast bil.Signed 33 e

-- the overflow of a sum with the carry that comes in: with 2 ^ 31 more the sum of the signed words is not below 2 ^ 32
abbrev pub overflow_out : CarryIn → Expression → Expression → Expression
overflow_out k x y =
    bit_of 32 (Binary bil.Plus (Binary bil.Plus (Binary bil.Plus (signed x) (signed y)) (long (carry_bit k))) (Constant 33 0x80000000))

-- the overflow of a sum or a difference; a logical opcode has none
abbrev pub overflow : Opcode → CarryIn → Expression → Expression → Expression
overflow Sub k x y = overflow_out Set x (turned y)
overflow Rsb k x y = overflow_out Set y (turned x)
overflow Add k x y = overflow_out Clear x y
overflow Adc k x y = overflow_out k x y
overflow Sbc k x y = overflow_out k x (turned y)
overflow Rsc k x y = overflow_out k y (turned x)
overflow Cmp k x y = overflow_out Set x (turned y)
overflow Cmn k x y = overflow_out Clear x y
overflow And k x y = flag flag_v
overflow Eor k x y = flag flag_v
overflow Tst k x y = flag flag_v
overflow Teq k x y = flag flag_v
overflow Orr k x y = flag flag_v
overflow Mov k x y = flag flag_v
overflow Bic k x y = flag flag_v
overflow Mvn k x y = flag flag_v

-- a register takes a value; a written r15 is a jump
abbrev pub written_by : (to_pc : Bool) → ℕ → Expression → Statements
written_by true r e = JumpTo e Empty
written_by false r e = Assign (bil.Register RRegisters r) e Empty

-- a register is written
abbrev pub written : ℕ → Expression → Statements
written r e = written_by (r == 15) r e

-- a flag is assigned where a test says so
abbrev pub flag_if : Bool → ℕ → Expression → Statements → Statements
flag_if true f e rest = Assign (bil.Flag f) e rest
flag_if false f e rest = rest

-- N and Z of a value
abbrev pub signs : Expression → Statements → Statements
signs e rest = Assign (bil.Flag flag_n) (bit_of 31 e) (Assign (bil.Flag flag_z) (Binary bil.Equal e (number 0)) rest)

-- the parts of data processing: its value, carry and overflow, for what is known of the carry that comes in
abbrev pub value_of : ComputingFields → CarryIn → ℕ → Expression
value_of i k at = value i.opcode k (register i.rn.number at) (operand i.operand k at)

-- the carry out
abbrev pub carry_of : ComputingFields → CarryIn → ℕ → Expression
carry_of i k at = carry i.opcode k (register i.rn.number at) (operand i.operand k at) (shifter_carry i.operand at)

-- the overflow
abbrev pub overflow_of : ComputingFields → ℕ → Expression
overflow_of i at = overflow i.opcode Flag (register i.rn.number at) (operand i.operand Flag at)

-- it assigns the carry: not where a logical opcode keeps it
abbrev pub assigns_carry : ComputingFields → Bool
assigns_carry i = not (is_logical i.opcode && keeps_carry i.operand)

-- it needs the carry that comes in
abbrev pub needs_carry : ComputingFields → Bool
needs_carry i = adds_carry i.opcode || is_rrx i.operand

-- the carry and then the register, for what is known of the carry that comes in
abbrev pub carried : ComputingFields → CarryIn → ℕ → Statements → Statements
carried i k at rest = flag_if (assigns_carry i) flag_c (carry_of i k at) (Assign (bil.Register RRegisters i.rd.number) (value_of i k at) rest)

-- the same, on both sides of an if on C where that is needed
abbrev pub carried_by : (needed : Bool) → ComputingFields → ℕ → Statements → Statements
carried_by true i at rest = If (flag flag_c) (carried i Set at Empty) (carried i Clear at Empty) rest
carried_by false i at rest = carried i Clear at rest

-- with S: V first, then C and the register, then N and Z from the register
abbrev pub with_flags : ComputingFields → ℕ → Statements
with_flags i at = flag_if (not (is_logical i.opcode)) flag_v (overflow_of i at) (carried_by (needs_carry i) i at (signs (own i.rd.number) Empty))

-- a test: N and Z, then V, and C last
abbrev pub tested : ComputingFields → ℕ → Statements
tested i at = signs (value_of i Flag at) (flag_if (not (is_logical i.opcode)) flag_v (overflow_of i at)
    (flag_if (assigns_carry i) flag_c (carry_of i Flag at) Empty))

-- without S, with S, and a test
abbrev pub computed_by : (test flags : Bool) → ComputingFields → ℕ → Statements
computed_by true f i at = tested i at
computed_by false true i at = with_flags i at
computed_by false false i at = written i.rd.number (value_of i Flag at)

-- the list of data processing
abbrev pub computed : ComputingFields → ℕ → Statements
computed i at = computed_by (is_test i.opcode) i.sets_flags i at
