-- The instruction table of RV32IM (RISC-V Unprivileged ISA 20191213, chapters 2 and 7; the encodings are listed in chapter 24).
use Rattle.std.specs.Prelude.{ℕ, zero, suc, ◌+◌, ◌*◌, ◌/◌, ◌%◌, ◌^◌, Bool, true, false, List, [], ◌∷◌, Option, Some, None, ◌==◌, ◌&&◌, ◌||◌, not, nat_lt, if◌then◌else◌, bit_and, bit_or, bit_xor}
use Rattle.word_spec.specs.Words.{add, sub, mul, bits, bit, sign_extend, signed_lt, shl, shr, sar, udiv, urem, sdiv, srem}
use Rattle.word_spec.specs.Memory.{Little, load, store}
use Rattle.word_spec.specs.State.{State, put, with_pc}
use Rattle.machine_spec.specs.Machine.{On, Direct, DirectCall, Indirect, IndirectCall, How, Exception, EnvironmentCall, Breakpoint, Outcome, Goes, Raises, only_next, Cost, no_flags, Row, even}

-- the fields of a word: the registers rd, rs1 and rs2, and the immediate of its format (section 2.2)
pub record Fields : Type 0 where
  pub rd : ℕ
  pub rs1 : ℕ
  pub rs2 : ℕ
  pub imm : ℕ

-- what a register reads; x0 reads 0 (section 2.1)
abbrev pub reg : State → ℕ → ℕ
reg s zero = 0
reg s (suc r) = s.regs (suc r)

-- the registers with one changed; x0 keeps its value (section 2.1)
abbrev pub put_reg : (ℕ → ℕ) → ℕ → ℕ → ℕ → ℕ
put_reg f zero v = f
put_reg f (suc r) v = put f (suc r) v

-- the state with a register changed
abbrev pub with_reg : State → ℕ → ℕ → State
with_reg s r v = record s { regs = put_reg s.regs r v }

-- x1 and x5 are the link registers: a jump that sets one is a call (section 2.5)
abbrev pub links : ℕ → Bool
links r = (r == 1) || (r == 5)

-- the immediate of format I: computations with a number, loads and JALR (section 2.3, as are the four below)
abbrev pub imm_i : ℕ → ℕ
imm_i w = sign_extend 12 32 (bits 31 20 w)

-- the immediate of format S: stores
abbrev pub imm_s : ℕ → ℕ
imm_s w = sign_extend 12 32 (bits 31 25 w * 2 ^ 5 + bits 11 7 w)

-- the immediate of format B: branches
abbrev pub imm_b : ℕ → ℕ
imm_b w = sign_extend 13 32 (bits 31 31 w * 2 ^ 12 + bits 7 7 w * 2 ^ 11 + bits 30 25 w * 2 ^ 5 + bits 11 8 w * 2)

-- the immediate of format U: LUI and AUIPC
abbrev pub imm_u : ℕ → ℕ
imm_u w = bits 31 12 w * 2 ^ 12

-- the immediate of format J: JAL
abbrev pub imm_j : ℕ → ℕ
imm_j w = sign_extend 21 32 (bits 31 31 w * 2 ^ 20 + bits 19 12 w * 2 ^ 12 + bits 20 20 w * 2 ^ 11 + bits 30 21 w * 2)

-- the fields of a word, with the immediate of a format
abbrev pub fields : (ℕ → ℕ) → ℕ → Fields
fields imm w = record { rd = bits 11 7 w; rs1 = bits 19 15 w; rs2 = bits 24 20 w; imm = imm w }

-- An instruction: what the opcode and, where it asks for them, funct3, funct7 or the whole word must be; its immediate; and its row for the word's fields.
pub record Instruction : Type 0 where
  pub opcode : ℕ
  pub funct3 : Option ℕ
  pub funct7 : Option ℕ
  pub whole : Option ℕ
  pub imm : ℕ → ℕ
  pub row : Fields → Row

-- a field is what the instruction asks, where it asks
abbrev pub is_field : Option ℕ → ℕ → Bool
is_field None n = true
is_field (Some m) n = n == m

-- the word is one of the instruction
abbrev pub fits : Instruction → ℕ → Bool
fits i w = (bits 6 0 w == i.opcode) && is_field i.funct3 (bits 14 12 w) && is_field i.funct7 (bits 31 25 w) && is_field i.whole w

-- the price of a row that neither multiplies nor divides, loads nor stores
abbrev pub plain_cost : Cost
plain_cost = record { row = 1024; loads = 0; stores = 0 }

-- a row from its effect, with what most rows have; no row reads a flag or the choice
abbrev pub row_of : (State → Outcome) → Row
row_of effect = record {
  length = 4;
  effect = λ s c. effect s;
  stored = λ s. None;
  successors = only_next;
  literal = λ at. None;
  cost = plain_cost;
  flags = no_flags;
  draws = false;
  adds_pc = None;
  jumps_to = None;
  links = false;
  loaded = λ s. None;
}

-- on to the next address
abbrev pub on : State → State → Outcome
on old new = Goes On (with_pc new (add 32 old.pc 4))

-- rd becomes a value of the state (section 2.4)
abbrev pub sets : (Fields → State → ℕ) → Fields → Row
sets f x = row_of (λ s. on s (with_reg s x.rd (f x s)))

-- AUIPC: rd becomes the row's address and the immediate (section 2.4)
abbrev pub auipc : Fields → Row
auipc x = record (sets (λ y s. add 32 s.pc y.imm) x) { adds_pc = Some (record { register = x.rd; number = x.imm }) }

-- where a branch goes that is taken, or not
abbrev pub branch_by : Bool → State → ℕ → Outcome
branch_by true s offset = Goes Direct (with_pc s (add 32 s.pc offset))
branch_by false s offset = on s s

-- a conditional branch (section 2.5)
abbrev pub branches : (ℕ → ℕ → Bool) → Fields → Row
branches test x = record (row_of (λ s. branch_by (test (reg s x.rs1) (reg s x.rs2)) s x.imm))
    { successors = λ at. record { next = true; direct = Some (add 32 at x.imm); indirect = false; call = false } }

-- a load of n bytes, and what is made of them; an unaligned one is done byte by byte (section 2.6)
abbrev pub loads : ℕ → (ℕ → ℕ) → Fields → Row
loads n extend x = record (row_of (λ s. on s (with_reg s x.rd (extend (load Little n s.mem (add 32 (reg s x.rs1) x.imm))))))
    { cost = record { row = 1024; loads = n; stores = 0 }; loaded = λ s. Some (add 32 (reg s x.rs1) x.imm, n) }

-- a store of the low n bytes of rs2 (section 2.6)
abbrev pub stores : ℕ → Fields → Row
stores n x = record (row_of (λ s. on s (record s { mem = store Little n s.mem (add 32 (reg s x.rs1) x.imm) (reg s x.rs2) })))
    { stored = λ s. Some (add 32 (reg s x.rs1) x.imm, n); cost = record { row = 1024; loads = 0; stores = n } }

-- how JAL jumps: a call where it sets a link register
abbrev pub direct_by : Bool → How
direct_by true = DirectCall
direct_by false = Direct

-- how JALR jumps
abbrev pub indirect_by : Bool → How
indirect_by true = IndirectCall
indirect_by false = Indirect

-- JAL: rd becomes the address behind the row (section 2.5). A call that sets x5 does not link, since x1 alone is the machine's link register.
abbrev pub jal : Fields → Row
jal x = record (row_of (λ s. Goes (direct_by (links x.rd)) (with_pc (with_reg s x.rd (add 32 s.pc 4)) (add 32 s.pc x.imm)))) {
  successors = λ at. record { next = false; direct = Some (add 32 at x.imm); indirect = false; call = links x.rd };
  links = x.rd == 1;
}

-- JALR: the target, its lowest bit cleared, is taken before rd changes (section 2.5)
abbrev pub jalr : Fields → Row
jalr x = record (row_of (λ s. Goes (indirect_by (links x.rd)) (with_pc (with_reg s x.rd (add 32 s.pc 4)) (even (add 32 (reg s x.rs1) x.imm))))) {
  successors = λ at. record { next = false; direct = None; indirect = true; call = links x.rd };
  jumps_to = Some (record { register = x.rs1; number = x.imm });
  links = x.rd == 1;
}

-- FENCE: nothing, for one processor (section 2.7)
abbrev pub fence : Fields → Row
fence x = row_of (λ s. on s s)

-- ECALL and EBREAK (section 2.8)
abbrev pub raises : Exception → Fields → Row
raises e x = record (row_of (λ s. Raises e)) { successors = λ at. record { next = false; direct = None; indirect = false; call = false } }

-- a row that multiplies or divides, with its price
abbrev pub dear : Row → Row
dear row = record row { cost = record { row = 20000; loads = 0; stores = 0 } }

-- the upper 32 bits of a product of 64 bits (section 7.1)
abbrev pub upper : ℕ → ℕ
upper product = product / 2 ^ 32 % 2 ^ 32

-- a word in 64 bits, with its sign (section 7.1)
abbrev pub wide : ℕ → ℕ
wide a = sign_extend 32 64 a

-- the amount of a shift by a register is its low five bits (section 2.4)
abbrev pub low_five : ℕ → ℕ
low_five b = b % 32

-- an instruction that its opcode alone tells
abbrev pub by_opcode : ℕ → (ℕ → ℕ) → (Fields → Row) → Instruction
by_opcode opcode imm row = record { opcode = opcode; funct3 = None; funct7 = None; whole = None; imm = imm; row = row }

-- an instruction that its opcode and funct3 tell
abbrev pub by_funct3 : (opcode funct3 : ℕ) → (ℕ → ℕ) → (Fields → Row) → Instruction
by_funct3 opcode funct3 imm row = record { opcode = opcode; funct3 = Some funct3; funct7 = None; whole = None; imm = imm; row = row }

-- an instruction that its opcode, funct3 and funct7 tell
abbrev pub by_funct7 : (opcode funct3 funct7 : ℕ) → (Fields → Row) → Instruction
by_funct7 opcode funct3 funct7 row = record { opcode = opcode; funct3 = Some funct3; funct7 = Some funct7; whole = None; imm = imm_i; row = row }

-- an instruction of one word
abbrev pub by_word : ℕ → (Fields → Row) → Instruction
by_word w row = record { opcode = 0b1110011; funct3 = None; funct7 = None; whole = Some w; imm = imm_i; row = row }

-- a branch, by a test of two registers
abbrev pub branch : ℕ → (ℕ → ℕ → Bool) → Instruction
branch funct3 test = by_funct3 0b1100011 funct3 imm_b (branches test)

-- a load of n bytes
abbrev pub load_of : ℕ → ℕ → (ℕ → ℕ) → Instruction
load_of funct3 n extend = by_funct3 0b0000011 funct3 imm_i (loads n extend)

-- a store of n bytes
abbrev pub store_of : ℕ → ℕ → Instruction
store_of funct3 n = by_funct3 0b0100011 funct3 imm_s (stores n)

-- a computation with a register and an immediate
abbrev pub immediate : ℕ → (ℕ → ℕ → ℕ) → Instruction
immediate funct3 f = by_funct3 0b0010011 funct3 imm_i (sets (λ x s. f (reg s x.rs1) x.imm))

-- a shift by a number, which stands at the place of rs2
abbrev pub shift : (funct3 funct7 : ℕ) → (ℕ → ℕ → ℕ) → Instruction
shift funct3 funct7 f = by_funct7 0b0010011 funct3 funct7 (sets (λ x s. f (reg s x.rs1) x.rs2))

-- a computation with two registers
abbrev pub registers : (funct3 funct7 : ℕ) → (ℕ → ℕ → ℕ) → Instruction
registers funct3 funct7 f = by_funct7 0b0110011 funct3 funct7 (sets (λ x s. f (reg s x.rs1) (reg s x.rs2)))

-- a multiplication or a division
abbrev pub dear_registers : ℕ → (ℕ → ℕ → ℕ) → Instruction
dear_registers funct3 f = by_funct7 0b0110011 funct3 1 (λ x. dear (sets (λ y s. f (reg s y.rs1) (reg s y.rs2)) x))

-- The table. No word is of two instructions.
-- LUI, AUIPC, JAL, JALR; BEQ, BNE, BLT, BGE, BLTU, BGEU; LB, LH, LW, LBU, LHU; SB, SH, SW;
-- ADDI, SLTI, SLTIU, XORI, ORI, ANDI; SLLI, SRLI, SRAI; ADD, SUB, SLL, SLT, SLTU, XOR, SRL, SRA, OR, AND;
-- MUL, MULH, MULHSU, MULHU, DIV, DIVU, REM, REMU; FENCE; ECALL, EBREAK.
unfoldable pub table : List Instruction
table =
    by_opcode 0b0110111 imm_u (sets (λ x s. x.imm)) ∷ by_opcode 0b0010111 imm_u auipc ∷ by_opcode 0b1101111 imm_j jal ∷ by_funct3 0b1100111 0 imm_i jalr ∷
    branch 0 (λ a b. a == b) ∷ branch 1 (λ a b. not (a == b)) ∷ branch 4 (signed_lt 32) ∷ branch 5 (λ a b. not (signed_lt 32 a b)) ∷
    branch 6 nat_lt ∷ branch 7 (λ a b. not (nat_lt a b)) ∷
    load_of 0 1 (sign_extend 8 32) ∷ load_of 1 2 (sign_extend 16 32) ∷ load_of 2 4 (λ v. v) ∷ load_of 4 1 (λ v. v) ∷ load_of 5 2 (λ v. v) ∷
    store_of 0 1 ∷ store_of 1 2 ∷ store_of 2 4 ∷
    immediate 0 (add 32) ∷ immediate 2 (λ a b. bit (signed_lt 32 a b)) ∷ immediate 3 (λ a b. bit (nat_lt a b)) ∷
    immediate 4 bit_xor ∷ immediate 6 bit_or ∷ immediate 7 bit_and ∷
    shift 1 0 (shl 32) ∷ shift 5 0 (shr 32) ∷ shift 5 32 (sar 32) ∷
    registers 0 0 (add 32) ∷ registers 0 32 (sub 32) ∷ registers 1 0 (λ a b. shl 32 a (low_five b)) ∷
    registers 2 0 (λ a b. bit (signed_lt 32 a b)) ∷ registers 3 0 (λ a b. bit (nat_lt a b)) ∷ registers 4 0 bit_xor ∷
    registers 5 0 (λ a b. shr 32 a (low_five b)) ∷ registers 5 32 (λ a b. sar 32 a (low_five b)) ∷ registers 6 0 bit_or ∷ registers 7 0 bit_and ∷
    dear_registers 0 (mul 32) ∷ dear_registers 1 (λ a b. upper (wide a * wide b)) ∷ dear_registers 2 (λ a b. upper (wide a * b)) ∷
    dear_registers 3 (λ a b. upper (a * b)) ∷
    dear_registers 4 (sdiv 32) ∷ dear_registers 5 (udiv 32) ∷ dear_registers 6 (srem 32) ∷ dear_registers 7 (urem 32) ∷
    by_funct3 0b0001111 0 imm_i fence ∷ by_word 0x73 (raises EnvironmentCall) ∷ by_word 0x100073 (raises Breakpoint) ∷ []

-- the row of a word by a table: that of the instruction of which it is a word
abbrev pub row_in : List Instruction → ℕ → Option Row
row_in [] w = None
row_in (i ∷ rest) w = if fits i w then Some (i.row (fields i.imm w)) else row_in rest w

-- the row of a word
unfoldable pub rv_row : ℕ → Option Row
rv_row w = row_in table w
