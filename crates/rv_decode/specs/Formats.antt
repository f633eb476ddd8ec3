-- The instructions that have a word: those whose immediate is one of their format (section 2.3).
use Rattle.std.specs.Prelude.{ℕ, ◌≡◌, ◌%◌, ◌^◌, ◌<◌, Option, Some, None}
use Rattle.word_spec.specs.Words.{sign_extend}
use Rattle.machine_spec.specs.Rv.{imm_u}
use Rattle.rv_decode.specs.declared.plain.Plain.{Plain}
use Rattle.rv_decode.specs.declared.plain.Plain.TheVariants.{Lui, Auipc, Jal, Jalr, Branch, Load, Store, Immediate, Shift, Computation, Fence, Ecall, Ebreak}
use Rattle.rv_decode.specs.declared.insn.Insn.{Insn}
use Rattle.rv_decode.specs.Insns.{IsDecodable}

-- a number is a word of 32 bits that its low n bits give, with their sign
abbrev pub IsSigned : ℕ → ℕ → Type 0
IsSigned n a = a ≡ sign_extend n 32 (a % 2 ^ n)

-- the immediate is one of the format: of 12 bits, of 13 or 21 bits and even, or of 20 upper bits; and FENCE has 22 free bits
abbrev pub FitsPlain : Plain → Type 0
FitsPlain (Lui rd imm) = imm ≡ imm_u imm
FitsPlain (Auipc rd imm) = imm ≡ imm_u imm
FitsPlain (Jal rd offset) = IsSigned 21 offset × (offset % 2 ≡ 0)
FitsPlain (Jalr rd rs1 offset) = IsSigned 12 offset
FitsPlain (Branch op rs1 rs2 offset) = IsSigned 13 offset × (offset % 2 ≡ 0)
FitsPlain (Load op rd rs1 offset) = IsSigned 12 offset
FitsPlain (Store op rs1 rs2 offset) = IsSigned 12 offset
FitsPlain (Immediate op rd rs1 imm) = IsSigned 12 imm
FitsPlain (Shift op rd rs1 amount) = Unit {0}
FitsPlain (Computation op rd rs1 rs2) = Unit {0}
FitsPlain (Fence fields) = fields < 2 ^ 22
FitsPlain Ecall = Unit {0}
FitsPlain Ebreak = Unit {0}

-- of a halfword there is nothing to ask
abbrev pub FitsBy : Plain → Option ℕ → Type 0
FitsBy i None = FitsPlain i
FitsBy i (Some h) = Unit {0}

abbrev pub FitsFormat : Insn → Type 0
FitsFormat i = FitsBy i.plain i.half

-- some word is of each such instruction
abbrev pub EachFitting : Type 0
EachFitting = (i : Insn) → FitsFormat i → IsDecodable i
