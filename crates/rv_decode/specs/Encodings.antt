-- The word of an instruction, by the formats R, I, S, B, U and J (section 2.2).
use Rattle.std.specs.Prelude.{ℕ, ◌+◌, ◌*◌, ◌^◌, Option, Some, None}
use Rattle.word_spec.specs.Words.{bits}
use Rattle.machine_spec.specs.RvWords.{word_r, word_i, word_s, word_b, word_u, word_j}
use Rattle.rv_decode.specs.Operations.{immediate_line, shift_line, register_line}
use Rattle.rv_decode.specs.Plains.{branch_code, load_code, store_code}
use Rattle.rv_decode.specs.declared.plain.Plain.{Plain}
use Rattle.rv_decode.specs.declared.plain.Plain.TheVariants.{Lui, Auipc, Jal, Jalr, Branch, Load, Store, Immediate, Shift, Computation, Fence, Ecall, Ebreak}

-- the word of an instruction
abbrev pub encoded : Plain → ℕ
encoded (Lui rd imm) = word_u 0b0110111 rd.number imm
encoded (Auipc rd imm) = word_u 0b0010111 rd.number imm
encoded (Jal rd offset) = word_j 0b1101111 rd.number offset
encoded (Jalr rd rs1 offset) = word_i 0b1100111 0 rd.number rs1.number offset
encoded (Branch op rs1 rs2 offset) = word_b 0b1100011 (branch_code op) rs1.number rs2.number offset
encoded (Load op rd rs1 offset) = word_i 0b0000011 (load_code op) rd.number rs1.number offset
encoded (Store op rs1 rs2 offset) = word_s 0b0100011 (store_code op) rs1.number rs2.number offset
encoded (Immediate op rd rs1 imm) = word_i 0b0010011 (immediate_line op).funct3 rd.number rs1.number imm
encoded (Shift op rd rs1 amount) = word_r 0b0010011 (shift_line op).funct3 (shift_line op).funct7 rd.number rs1.number amount.bits
encoded (Computation op rd rs1 rs2) = word_r 0b0110011 (register_line op).funct3 (register_line op).funct7 rd.number rs1.number rs2.number
encoded (Fence fields) = 0b0001111 + bits 4 0 fields * 2 ^ 7 + bits 21 5 fields * 2 ^ 15
encoded Ecall = 0x73
encoded Ebreak = 0x100073

-- the word or the halfword of an instruction
abbrev pub encoded_by : Plain → Option ℕ → ℕ
encoded_by i None = encoded i
encoded_by i (Some h) = h
