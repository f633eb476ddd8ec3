-- The operands of data processing, and the carry out of their shifts (section A5.1).
use Rattle.std.specs.Prelude.{ℕ, zero, suc, ◌-◌, ◌*◌, ◌==◌, Bool, true, false}
use Rattle.word_spec.specs.Words.{add, bit_at, ror}
use Rattle.word_spec.specs.State.{flag_c}
use Rattle.machine_spec.specs.Bil as bil
use Rattle.machine_spec.specs.Bil.{RRegisters, Expression, Var, Constant, Binary, Cast, Choose, Extract, Concat}
use Rattle.arm_decode.specs.declared.parts.ShiftKind.{ShiftKind}
use Rattle.arm_decode.specs.declared.parts.ShiftKind.TheVariants.{Lsl, Lsr, Asr, Ror}
use Rattle.arm_decode.specs.declared.parts.Operand as operands
use Rattle.arm_decode.specs.declared.parts.Operand.TheVariants as kinds
pub use Rattle.arm_decode.specs.Parts.{keeps_carry, keeps_by_number, is_rrx, through_carry, is_by_register}
use Rattle.arm_lift_alu.specs.declared.shifter.CarryIn.{CarryIn}
use Rattle.arm_lift_alu.specs.declared.shifter.CarryIn.TheVariants.{Clear, Set, Flag}
use Rattle.arm_lift_alu.specs.Lifted.{number, flag}

-- the carry that comes in, as one bit
abbrev pub carry_bit : CarryIn → Expression
carry_bit Clear = Constant 1 0
carry_bit Set = Constant 1 1
carry_bit Flag = flag flag_c

-- a register that is not the program counter
abbrev pub own : ℕ → Expression
own r = Var (bil.Register RRegisters r)

-- what a register reads: r15 the address and 8
abbrev pub register_by : (is_pc : Bool) → ℕ → ℕ → Expression
register_by true r at = number (add 32 at 8)
register_by false r at = own r

-- a register of a row that stands at an address
abbrev pub register : ℕ → ℕ → Expression
register r at = register_by (r == 15) r at

-- a word, rotated to the right by fewer than 32 bits: the low half of the word twice, shifted
abbrev pub rotated : Expression → Expression → Expression
rotated v n = Cast bil.Low 32 (Binary bil.ShiftRight (Concat v v) n)

-- a word, shifted by a number
abbrev pub shifted : ShiftKind → Expression → ℕ → Expression
shifted Lsl v n = Binary bil.ShiftLeft v (number n)
shifted Lsr v n = Binary bil.ShiftRight v (number n)
shifted Asr v n = Binary bil.ShiftSigned v (number n)
shifted Ror v n = rotated v (Constant 64 n)

-- by the number 0: nothing, as 32, as 32, and a rotation through the carry
abbrev pub by_0 : ShiftKind → CarryIn → Expression → Expression
by_0 Lsl k v = v
by_0 Lsr k v = number 0
by_0 Asr k v = Binary bil.ShiftSigned v (number 32)
by_0 Ror k v = Concat (carry_bit k) (Extract 31 1 v)

-- a register, shifted by a number
abbrev pub by_number : ShiftKind → CarryIn → Expression → ℕ → Expression
by_number kind k v zero = by_0 kind k v
by_number kind k v (suc n) = shifted kind v (suc n)

-- the low byte of a word, in a width
abbrev pub low_byte : ℕ → Expression → Expression
low_byte width n = Cast bil.Unsigned width (Cast bil.Low 8 n)

-- a register, shifted by the low byte of another
abbrev pub by_register : ShiftKind → Expression → Expression → Expression
by_register Lsl v n = Binary bil.ShiftLeft v (low_byte 32 n)
by_register Lsr v n = Binary bil.ShiftRight v (low_byte 32 n)
by_register Asr v n = Binary bil.ShiftSigned v (low_byte 32 n)
by_register Ror v n = rotated v (Cast bil.Unsigned 64 (Cast bil.Low 5 n))

-- the number of an operand that is one
abbrev pub immediate : (byte rotation : ℕ) → ℕ
immediate byte rotation = ror 32 byte (2 * rotation)

-- the operand of a row that stands at an address
abbrev pub operand : operands.Operand → CarryIn → ℕ → Expression
operand (kinds.Number byte rotation) k at = number (immediate byte rotation)
operand (kinds.ByNumber r kind amount) k at = by_number kind k (register r.number at) amount.bits
operand (kinds.ByRegister r kind amount) k at = by_register kind (own r.number) (own amount.number)

-- one bit of a word
abbrev pub bit_of : ℕ → Expression → Expression
bit_of i v = Extract i i v

-- the carry out of a shift by a number; of LSL by 0 it is the flag
abbrev pub number_carry : ShiftKind → Expression → ℕ → Expression
number_carry Lsl v zero = flag flag_c
number_carry Lsr v zero = bit_of 31 v
number_carry Asr v zero = bit_of 31 v
number_carry Ror v zero = bit_of 0 v
number_carry Lsl v (suc n) = bit_of (31 - n) v
number_carry Lsr v (suc n) = bit_of n v
number_carry Asr v (suc n) = bit_of n v
number_carry Ror v (suc n) = bit_of n v

-- The carry out of a shift by a register: the bit beside a word of 33 bits, which starts with the flag. A rotation's is its highest bit, unless the amount is
-- 0.
abbrev pub register_carry : ShiftKind → Expression → Expression → Expression
register_carry Lsl v n = Extract 32 32 (Binary bil.ShiftLeft (Concat (flag flag_c) v) (low_byte 33 n))
register_carry Lsr v n = Cast bil.Low 1 (Binary bil.ShiftRight (Concat v (flag flag_c)) (low_byte 33 n))
register_carry Asr v n = Cast bil.Low 1 (Binary bil.ShiftSigned (Concat v (flag flag_c)) (low_byte 33 n))
register_carry Ror v n = Choose (Binary bil.Equal (Cast bil.Low 8 n) (Constant 8 0)) (flag flag_c) (bit_of 31 (by_register Ror v n))

-- the carry of an operand that is a number: the flag where it is not rotated
abbrev pub immediate_carry : (byte rotation : ℕ) → Expression
immediate_carry byte zero = flag flag_c
immediate_carry byte (suc n) = Constant 1 (bit_at 31 (immediate byte (suc n)))

-- the carry out of the operand's shift
abbrev pub shifter_carry : operands.Operand → ℕ → Expression
shifter_carry (kinds.Number byte rotation) at = immediate_carry byte rotation
shifter_carry (kinds.ByNumber r kind amount) at = number_carry kind (register r.number at) amount.bits
shifter_carry (kinds.ByRegister r kind amount) at = register_carry kind (own r.number) (own amount.number)
