-- The instructions as words of the table.
use Rattle.std.specs.Prelude.{ℕ, ◌≡◌, true}
use Rattle.word_spec.specs.Memory.{Endian}
use Rattle.machine_spec.specs.Machine.{Row}
use Rattle.machine_spec.specs.Arm as rows
use Rattle.arm_decode.specs.declared.insn.Insn.{Insn}
use Rattle.arm_decode.specs.declared.insn.Insn.TheVariants.{Computing, Multiply, MultiplyLong, Swap, Transfer, Halfword, Block, Branch, SoftwareInterrupt, Exchange, Count}

-- the word of an instruction
abbrev pub word_of : Insn → ℕ
word_of (Computing x) = x.word
word_of (Multiply x) = x.word
word_of (MultiplyLong x) = x.word
word_of (Swap x) = x.word
word_of (Transfer x) = x.word
word_of (Halfword x) = x.word
word_of (Block x) = x.word
word_of (Branch x) = x.word
word_of (SoftwareInterrupt x) = x.word
word_of (Exchange x) = x.word
word_of (Count x) = x.word

-- the row of an instruction, in a byte order: that of its line of the table for its word
abbrev pub row_of : Endian → Insn → Row
row_of e (Computing x) = rows.computing x.word
row_of e (Multiply x) = rows.multiply x.keeps x.word
row_of e (MultiplyLong x) = rows.multiply_long x.keeps x.word
row_of e (Swap x) = rows.swap e x.word
row_of e (Transfer x) = rows.single_transfer e x.word
row_of e (Halfword x) = rows.halfword e x.word
row_of e (Block x) = rows.block e x.word
row_of e (Branch x) = rows.branch x.word
row_of e (SoftwareInterrupt x) = rows.software_interrupt x.word
row_of e (Exchange x) = rows.exchange x.word
row_of e (Count x) = rows.count x.word

-- an instruction of a profile: BX and CLZ are where the profile has them, and a multiply keeps C and V where the profile says so
abbrev pub IsOfProfile : rows.Profile → Insn → Type 0
IsOfProfile profile (Multiply x) = x.keeps ≡ rows.is_fifth profile
IsOfProfile profile (MultiplyLong x) = x.keeps ≡ rows.is_fifth profile
IsOfProfile profile (Exchange x) = rows.has_exchange profile ≡ true
IsOfProfile profile (Count x) = rows.is_fifth profile ≡ true
IsOfProfile profile other = Unit {0}
