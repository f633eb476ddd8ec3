-- The numbers that words have for parts of instructions.
use Rattle.std.specs.Prelude.{ℕ, zero, suc, ◌≡◌, ◌+◌, ◌*◌, ◌==◌, Bool, true, false}
use Rattle.word_spec.specs.Words.{bits}
use Rattle.machine_spec.specs.Arm.{field_s, field_m, has_bit, bit_i, is_pre, is_up, is_load, writes_back, kind_of, amount_of, has_offset}
use Rattle.arm_decode.specs.declared.parts.Condition.{Condition}
use Rattle.arm_decode.specs.declared.parts.Condition.TheVariants.{Eq, Ne, Cs, Cc, Mi, Pl, Vs, Vc, Hi, Ls, Ge, Lt, Gt, Le, Al}
use Rattle.arm_decode.specs.declared.parts.Opcode.{Opcode}
use Rattle.arm_decode.specs.declared.parts.Opcode.TheVariants.{And, Eor, Sub, Rsb, Add, Adc, Sbc, Rsc, Tst, Teq, Cmp, Cmn, Orr, Mov, Bic, Mvn}
use Rattle.arm_decode.specs.declared.parts.ShiftKind.{ShiftKind}
use Rattle.arm_decode.specs.declared.parts.ShiftKind.TheVariants.{Lsl, Lsr, Asr, Ror}
use Rattle.arm_decode.specs.declared.parts.Operand as operands
use Rattle.arm_decode.specs.declared.parts.Operand.TheVariants as operand
use Rattle.arm_decode.specs.declared.parts.Indexing.{Indexing}
use Rattle.arm_decode.specs.declared.parts.Indexing.TheVariants as indexing
use Rattle.arm_decode.specs.declared.parts.Addressing.{Addressing}
use Rattle.arm_decode.specs.declared.parts.Offset as offsets
use Rattle.arm_decode.specs.declared.parts.Offset.TheVariants as offset
use Rattle.arm_decode.specs.declared.parts.HalfwordOffset.{HalfwordOffset}
use Rattle.arm_decode.specs.declared.parts.HalfwordOffset.TheVariants as half
use Rattle.arm_decode.specs.declared.parts.HalfwordOp.{HalfwordOp}
use Rattle.arm_decode.specs.declared.parts.HalfwordOp.TheVariants.{Ldrh, Ldrsb, Ldrsh, Strh}

-- the code of a condition (section A3.2)
abbrev pub condition_number : Condition → ℕ
condition_number Eq = 0
condition_number Ne = 1
condition_number Cs = 2
condition_number Cc = 3
condition_number Mi = 4
condition_number Pl = 5
condition_number Vs = 6
condition_number Vc = 7
condition_number Hi = 8
condition_number Ls = 9
condition_number Ge = 10
condition_number Lt = 11
condition_number Gt = 12
condition_number Le = 13
condition_number Al = 14

-- the number of an opcode (section A3.4)
abbrev pub opcode_number : Opcode → ℕ
opcode_number And = 0
opcode_number Eor = 1
opcode_number Sub = 2
opcode_number Rsb = 3
opcode_number Add = 4
opcode_number Adc = 5
opcode_number Sbc = 6
opcode_number Rsc = 7
opcode_number Tst = 8
opcode_number Teq = 9
opcode_number Cmp = 10
opcode_number Cmn = 11
opcode_number Orr = 12
opcode_number Mov = 13
opcode_number Bic = 14
opcode_number Mvn = 15

-- the number of a shift's type (section A5.1)
abbrev pub kind_number : ShiftKind → ℕ
kind_number Lsl = 0
kind_number Lsr = 1
kind_number Asr = 2
kind_number Ror = 3

-- a word has the operand of data processing
abbrev pub HasOperand : ℕ → operands.Operand → Type 0
HasOperand w (operand.Number byte rotation) = (bit_i w ≡ true) × (byte ≡ bits 7 0 w) × (rotation ≡ bits 11 8 w)
HasOperand w (operand.ByNumber register kind amount) =
    (bit_i w ≡ false) × (has_bit 4 w ≡ false) × (register.number ≡ field_m w) × (kind_number kind ≡ kind_of w) × (amount.bits ≡ amount_of w)
HasOperand w (operand.ByRegister register kind amount) =
    (bit_i w ≡ false) × (has_bit 4 w ≡ true) × (register.number ≡ field_m w) × (kind_number kind ≡ kind_of w) × (amount.number ≡ field_s w)

-- a word has this order of access and offset
abbrev pub HasIndexing : ℕ → Indexing → Type 0
HasIndexing w indexing.Offset = (is_pre w ≡ true) × (writes_back w ≡ false)
HasIndexing w indexing.Pre = (is_pre w ≡ true) × (writes_back w ≡ true)
HasIndexing w indexing.Post = (is_pre w ≡ false) × (writes_back w ≡ true)

-- a word has this way to make an address
abbrev pub HasAddressing : ℕ → Addressing → Type 0
HasAddressing w a = (a.is_up ≡ is_up w) × HasIndexing w a.indexing

-- a word has the offset of LDR and STR
abbrev pub HasOffset : ℕ → offsets.Offset → Type 0
HasOffset w (offset.Number n) = (bit_i w ≡ false) × (n ≡ bits 11 0 w)
HasOffset w (offset.Shifted register kind amount) =
    (bit_i w ≡ true) × (register.number ≡ field_m w) × (kind_number kind ≡ kind_of w) × (amount.bits ≡ amount_of w)

-- a word has the offset of a halfword access
abbrev pub HasHalfwordOffset : ℕ → HalfwordOffset → Type 0
HasHalfwordOffset w (half.Number n) = (has_offset w ≡ true) × (n ≡ field_s w * 16 + field_m w)
HasHalfwordOffset w (half.Register register) = (has_offset w ≡ false) × (register.number ≡ field_m w)

-- a word has this halfword access
abbrev pub HasHalfwordOp : ℕ → HalfwordOp → Type 0
HasHalfwordOp w Ldrh = (is_load w ≡ true) × (kind_of w ≡ 1)
HasHalfwordOp w Ldrsb = (is_load w ≡ true) × (kind_of w ≡ 2)
HasHalfwordOp w Ldrsh = (is_load w ≡ true) × (kind_of w ≡ 3)
HasHalfwordOp w Strh = (is_load w ≡ false) × (kind_of w ≡ 1)

-- a logical opcode
abbrev pub is_logical : Opcode → Bool
is_logical And = true
is_logical Eor = true
is_logical Sub = false
is_logical Rsb = false
is_logical Add = false
is_logical Adc = false
is_logical Sbc = false
is_logical Rsc = false
is_logical Tst = true
is_logical Teq = true
is_logical Cmp = false
is_logical Cmn = false
is_logical Orr = true
is_logical Mov = true
is_logical Bic = true
is_logical Mvn = true

-- an opcode that adds the carry
abbrev pub adds_carry : Opcode → Bool
adds_carry And = false
adds_carry Eor = false
adds_carry Sub = false
adds_carry Rsb = false
adds_carry Add = false
adds_carry Adc = true
adds_carry Sbc = true
adds_carry Rsc = true
adds_carry Tst = false
adds_carry Teq = false
adds_carry Cmp = false
adds_carry Cmn = false
adds_carry Orr = false
adds_carry Mov = false
adds_carry Bic = false
adds_carry Mvn = false

-- an opcode that writes no register
abbrev pub is_test : Opcode → Bool
is_test And = false
is_test Eor = false
is_test Sub = false
is_test Rsb = false
is_test Add = false
is_test Adc = false
is_test Sbc = false
is_test Rsc = false
is_test Tst = true
is_test Teq = true
is_test Cmp = true
is_test Cmn = true
is_test Orr = false
is_test Mov = false
is_test Bic = false
is_test Mvn = false

-- the shift of a kind by a number leaves the carry
abbrev pub keeps_by_number : ShiftKind → ℕ → Bool
keeps_by_number Lsl n = n == 0
keeps_by_number Lsr n = false
keeps_by_number Asr n = false
keeps_by_number Ror n = false

-- the carry is the flag C, whatever the registers are
abbrev pub keeps_carry : operands.Operand → Bool
keeps_carry (operand.Number byte rotation) = rotation == 0
keeps_carry (operand.ByNumber r kind amount) = keeps_by_number kind amount.bits
keeps_carry (operand.ByRegister r kind amount) = false

-- the shift of a kind by a number is a rotation through the carry
abbrev pub through_carry : ShiftKind → ℕ → Bool
through_carry Lsl n = false
through_carry Lsr n = false
through_carry Asr n = false
through_carry Ror n = n == 0

-- the operand is a rotation through the carry
abbrev pub is_rrx : operands.Operand → Bool
is_rrx (operand.Number byte rotation) = false
is_rrx (operand.ByNumber r kind amount) = through_carry kind amount.bits
is_rrx (operand.ByRegister r kind amount) = false

-- the operand is shifted by a register
abbrev pub is_by_register : operands.Operand → Bool
is_by_register (operand.Number byte rotation) = false
is_by_register (operand.ByNumber q kind amount) = false
is_by_register (operand.ByRegister q kind amount) = true
