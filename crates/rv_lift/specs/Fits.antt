-- The numbers of an instruction are words of 32 bits.
use Rattle.std.specs.Prelude.{◌<◌, ◌^◌}
use Rattle.rv_decode.specs.declared.plain.Plain.{Plain}
use Rattle.rv_decode.specs.declared.plain.Plain.TheVariants.{Lui, Auipc, Jal, Jalr, Branch, Load, Store, Immediate, Shift, Computation, Fence, Ecall, Ebreak}

abbrev pub HasWords : Plain → Type 0
HasWords (Lui rd imm) = imm < 2 ^ 32
HasWords (Jalr rd rs1 offset) = offset < 2 ^ 32
HasWords (Load op rd rs1 offset) = offset < 2 ^ 32
HasWords (Store op rs1 rs2 offset) = offset < 2 ^ 32
HasWords (Immediate op rd rs1 imm) = imm < 2 ^ 32
HasWords (Auipc rd imm) = Unit {0}
HasWords (Jal rd offset) = Unit {0}
HasWords (Branch op rs1 rs2 offset) = Unit {0}
HasWords (Shift op rd rs1 amount) = Unit {0}
HasWords (Computation op rd rs1 rs2) = Unit {0}
HasWords (Fence fields) = Unit {0}
HasWords Ecall = Unit {0}
HasWords Ebreak = Unit {0}
