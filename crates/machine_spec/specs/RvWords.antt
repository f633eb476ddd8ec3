-- The words of RV32IM by their formats (RISC-V Unprivileged ISA 20191213, section 2.2).
use Rattle.std.specs.Prelude.{ℕ, ◌+◌, ◌*◌, ◌^◌}
use Rattle.word_spec.specs.Words.{bits}

-- format R: two registers to a third
abbrev pub word_r : (opcode funct3 funct7 rd rs1 rs2 : ℕ) → ℕ
word_r opcode funct3 funct7 rd rs1 rs2 = opcode + rd * 2 ^ 7 + funct3 * 2 ^ 12 + rs1 * 2 ^ 15 + rs2 * 2 ^ 20 + funct7 * 2 ^ 25

-- format I: a register and an immediate of 12 bits
abbrev pub word_i : (opcode funct3 rd rs1 imm : ℕ) → ℕ
word_i opcode funct3 rd rs1 imm = opcode + rd * 2 ^ 7 + funct3 * 2 ^ 12 + rs1 * 2 ^ 15 + bits 11 0 imm * 2 ^ 20

-- format S: two registers and an offset of 12 bits
abbrev pub word_s : (opcode funct3 rs1 rs2 offset : ℕ) → ℕ
word_s opcode funct3 rs1 rs2 offset =
    opcode + bits 4 0 offset * 2 ^ 7 + funct3 * 2 ^ 12 + rs1 * 2 ^ 15 + rs2 * 2 ^ 20 + bits 11 5 offset * 2 ^ 25

-- format B: two registers and an even offset of 13 bits
abbrev pub word_b : (opcode funct3 rs1 rs2 offset : ℕ) → ℕ
word_b opcode funct3 rs1 rs2 offset =
    opcode + bits 11 11 offset * 2 ^ 7 + bits 4 1 offset * 2 ^ 8 + funct3 * 2 ^ 12 + rs1 * 2 ^ 15 + rs2 * 2 ^ 20
    + bits 10 5 offset * 2 ^ 25 + bits 12 12 offset * 2 ^ 31

-- format U: the upper 20 bits of an immediate
abbrev pub word_u : (opcode rd imm : ℕ) → ℕ
word_u opcode rd imm = opcode + rd * 2 ^ 7 + bits 31 12 imm * 2 ^ 12

-- format J: an even offset of 21 bits
abbrev pub word_j : (opcode rd offset : ℕ) → ℕ
word_j opcode rd offset =
    opcode + rd * 2 ^ 7 + bits 19 12 offset * 2 ^ 12 + bits 11 11 offset * 2 ^ 20 + bits 10 1 offset * 2 ^ 21 + bits 20 20 offset * 2 ^ 31
