-- The instructions of words as lines of the table of RV32IM (RISC-V Unprivileged ISA 20191213, chapters 2 and 7): their rows, and their words.
use Rattle.std.specs.Prelude.{◌≡◌, ℕ, ◌+◌, ◌*◌, ◌^◌, ◌==◌, nat_lt, not, Bool, true}
use Rattle.word_spec.specs.Words.{bits, sign_extend, signed_lt}
use Rattle.word_spec.specs.State.{State}
use Rattle.machine_spec.specs.Machine.{Row, EnvironmentCall, Breakpoint}
use Rattle.machine_spec.specs.Rv.{Fields, Instruction, reg, sets, auipc, jal, jalr, fence, raises, fits, fields, imm_i, imm_s, imm_b, imm_u, imm_j, by_opcode, by_funct3, by_funct7, by_word, branch, load_of, store_of}
use Rattle.rv_decode.specs.declared.plain.BranchOp.{BranchOp}
use Rattle.rv_decode.specs.declared.plain.BranchOp.TheVariants.{Beq, Bne, Blt, Bge, Bltu, Bgeu}
use Rattle.rv_decode.specs.declared.plain.LoadOp.{LoadOp}
use Rattle.rv_decode.specs.declared.plain.LoadOp.TheVariants.{Lb, Lh, Lw, Lbu, Lhu}
use Rattle.rv_decode.specs.declared.plain.StoreOp.{StoreOp}
use Rattle.rv_decode.specs.declared.plain.StoreOp.TheVariants.{Sb, Sh, Sw}
use Rattle.rv_decode.specs.declared.operations.Operation.{Operation}
use Rattle.rv_decode.specs.declared.plain.Plain.{Plain}
use Rattle.rv_decode.specs.declared.plain.Plain.TheVariants.{Lui, Auipc, Jal, Jalr, Branch, Load, Store, Immediate, Shift, Computation, Fence, Ecall, Ebreak}
use Rattle.rv_decode.specs.Operations.{immediate_line, shift_line, register_line}
use Rattle.word_formula.specs.Formulas.{value}

-- what a branch asks in funct3 (section 2.5)
abbrev pub branch_code : BranchOp → ℕ
branch_code Beq = 0
branch_code Bne = 1
branch_code Blt = 4
branch_code Bge = 5
branch_code Bltu = 6
branch_code Bgeu = 7

-- what a branch tests of two words
abbrev pub test_of : BranchOp → ℕ → ℕ → Bool
test_of Beq a b = a == b
test_of Bne a b = not (a == b)
test_of Blt a b = signed_lt 32 a b
test_of Bge a b = not (signed_lt 32 a b)
test_of Bltu a b = nat_lt a b
test_of Bgeu a b = not (nat_lt a b)

-- what a load asks in funct3 (section 2.6)
abbrev pub load_code : LoadOp → ℕ
load_code Lb = 0
load_code Lh = 1
load_code Lw = 2
load_code Lbu = 4
load_code Lhu = 5

-- how many bytes a load reads
abbrev pub loaded_bytes : LoadOp → ℕ
loaded_bytes Lb = 1
loaded_bytes Lh = 2
loaded_bytes Lw = 4
loaded_bytes Lbu = 1
loaded_bytes Lhu = 2

-- what a load makes of the number that they are: LB and LH extend its sign
abbrev pub extended : LoadOp → ℕ → ℕ
extended Lb v = sign_extend 8 32 v
extended Lh v = sign_extend 16 32 v
extended Lw v = v
extended Lbu v = v
extended Lhu v = v

-- what a store asks in funct3 (section 2.6)
abbrev pub store_code : StoreOp → ℕ
store_code Sb = 0
store_code Sh = 1
store_code Sw = 2

-- how many bytes a store writes
abbrev pub stored_bytes : StoreOp → ℕ
stored_bytes Sb = 1
stored_bytes Sh = 2
stored_bytes Sw = 4

-- rd becomes what an operation makes of two words, at its price
abbrev pub computes : Operation → (first second : Fields → State → ℕ) → Fields → Row
computes line first second x =
    record (sets (λ y s. value line.formula (first y s) (second y s)) x) { cost = record { row = line.price; loads = 0; stores = 0 } }

-- the line of the table that an instruction is of
abbrev pub line_of : Plain → Instruction
line_of (Lui rd imm) = by_opcode 0b0110111 imm_u (sets (λ x s. x.imm))
line_of (Auipc rd imm) = by_opcode 0b0010111 imm_u auipc
line_of (Jal rd offset) = by_opcode 0b1101111 imm_j jal
line_of (Jalr rd rs1 offset) = by_funct3 0b1100111 0 imm_i jalr
line_of (Branch op rs1 rs2 offset) = branch (branch_code op) (test_of op)
line_of (Load op rd rs1 offset) = load_of (load_code op) (loaded_bytes op) (extended op)
line_of (Store op rs1 rs2 offset) = store_of (store_code op) (stored_bytes op)
line_of (Immediate op rd rs1 imm) = by_funct3 0b0010011 (immediate_line op).funct3 imm_i (computes (immediate_line op) (λ x s. reg s x.rs1) (λ x s. x.imm))
line_of (Shift op rd rs1 amount) =
    by_funct7 0b0010011 (shift_line op).funct3 (shift_line op).funct7 (computes (shift_line op) (λ x s. reg s x.rs1) (λ x s. x.rs2))
line_of (Computation op rd rs1 rs2) =
    by_funct7 0b0110011 (register_line op).funct3 (register_line op).funct7 (computes (register_line op) (λ x s. reg s x.rs1) (λ x s. reg s x.rs2))
line_of (Fence fields) = by_funct3 0b0001111 0 imm_i fence
line_of Ecall = by_word 0x73 (raises EnvironmentCall)
line_of Ebreak = by_word 0x100073 (raises Breakpoint)

-- the fields that an instruction has; those that its row does not read are 0
abbrev pub fields_of : Plain → Fields
fields_of (Lui rd imm) = record { rd = rd.number; rs1 = 0; rs2 = 0; imm = imm }
fields_of (Auipc rd imm) = record { rd = rd.number; rs1 = 0; rs2 = 0; imm = imm }
fields_of (Jal rd offset) = record { rd = rd.number; rs1 = 0; rs2 = 0; imm = offset }
fields_of (Jalr rd rs1 offset) = record { rd = rd.number; rs1 = rs1.number; rs2 = 0; imm = offset }
fields_of (Branch op rs1 rs2 offset) = record { rd = 0; rs1 = rs1.number; rs2 = rs2.number; imm = offset }
fields_of (Load op rd rs1 offset) = record { rd = rd.number; rs1 = rs1.number; rs2 = 0; imm = offset }
fields_of (Store op rs1 rs2 offset) = record { rd = 0; rs1 = rs1.number; rs2 = rs2.number; imm = offset }
fields_of (Immediate op rd rs1 imm) = record { rd = rd.number; rs1 = rs1.number; rs2 = 0; imm = imm }
fields_of (Shift op rd rs1 amount) = record { rd = rd.number; rs1 = rs1.number; rs2 = amount.bits; imm = 0 }
fields_of (Computation op rd rs1 rs2) = record { rd = rd.number; rs1 = rs1.number; rs2 = rs2.number; imm = 0 }
fields_of (Fence fields) = record { rd = 0; rs1 = 0; rs2 = 0; imm = 0 }
fields_of Ecall = record { rd = 0; rs1 = 0; rs2 = 0; imm = 0 }
fields_of Ebreak = record { rd = 0; rs1 = 0; rs2 = 0; imm = 0 }

-- the row of an instruction
abbrev pub plain_row : Plain → Row
plain_row i = (line_of i).row (fields_of i)

-- An instruction has a word's fields: those that its row reads, and of FENCE the bits that the standard leaves free (section 2.7).
abbrev pub HasFields : Plain → ℕ → Type 0
HasFields (Lui rd imm) w = (rd.number ≡ bits 11 7 w) × (imm ≡ imm_u w)
HasFields (Auipc rd imm) w = (rd.number ≡ bits 11 7 w) × (imm ≡ imm_u w)
HasFields (Jal rd offset) w = (rd.number ≡ bits 11 7 w) × (offset ≡ imm_j w)
HasFields (Jalr rd rs1 offset) w = (rd.number ≡ bits 11 7 w) × (rs1.number ≡ bits 19 15 w) × (offset ≡ imm_i w)
HasFields (Branch op rs1 rs2 offset) w = (rs1.number ≡ bits 19 15 w) × (rs2.number ≡ bits 24 20 w) × (offset ≡ imm_b w)
HasFields (Load op rd rs1 offset) w = (rd.number ≡ bits 11 7 w) × (rs1.number ≡ bits 19 15 w) × (offset ≡ imm_i w)
HasFields (Store op rs1 rs2 offset) w = (rs1.number ≡ bits 19 15 w) × (rs2.number ≡ bits 24 20 w) × (offset ≡ imm_s w)
HasFields (Immediate op rd rs1 imm) w = (rd.number ≡ bits 11 7 w) × (rs1.number ≡ bits 19 15 w) × (imm ≡ imm_i w)
HasFields (Shift op rd rs1 amount) w = (rd.number ≡ bits 11 7 w) × (rs1.number ≡ bits 19 15 w) × (amount.bits ≡ bits 24 20 w)
HasFields (Computation op rd rs1 rs2) w = (rd.number ≡ bits 11 7 w) × (rs1.number ≡ bits 19 15 w) × (rs2.number ≡ bits 24 20 w)
HasFields (Fence fields) w = fields ≡ bits 31 15 w * 2 ^ 5 + bits 11 7 w
HasFields Ecall w = Unit {0}
HasFields Ebreak w = Unit {0}

-- a word is of an instruction: of its line in the table, and with its fields
pub record DecodesPlain (w : ℕ) (i : Plain) : Type 0 where
  pub line : fits (line_of i) w ≡ true
  pub fields : HasFields i w
