-- The instructions of words and of halfwords: their rows, and what each is decoded from.
use Rattle.std.specs.Prelude.{ℕ, ◌≡◌, ◌^◌, ◌<◌, Bool, true, Option, Some, None}
use Rattle.word_spec.specs.State.{State}
use Rattle.machine_spec.specs.Machine.{Outcome, Row}
use Rattle.machine_spec.specs.RvShort.{shortened}
use Rattle.rv_decode.specs.declared.insn.Insn.{Insn}
use Rattle.rv_decode.specs.declared.plain.Plain.{Plain}
use Rattle.rv_decode.specs.Plains.{plain_row, DecodesPlain}

-- how many bytes an instruction has, of a halfword or of a word with a row of so many
abbrev pub length_by : Option ℕ → (length : ℕ) → ℕ
length_by None length = length
length_by (Some h) length = 2

-- what an instruction comes to, by what its expansion does
abbrev pub outcome_by : Option ℕ → State → Outcome → Outcome
outcome_by None s o = o
outcome_by (Some h) s o = shortened s o

-- The row of an instruction: that of a halfword is its expansion's but for the length.
abbrev pub row_by : Plain → Option ℕ → Row
row_by i half = record (plain_row i) { length = length_by half (plain_row i).length; effect = λ s c. outcome_by half s ((plain_row i).effect s c) }

abbrev pub row_of : Insn → Row
row_of i = row_by i.plain i.half

-- the word, or the halfword as a number, is of the instruction; halfwords have one only with the compressed instructions
abbrev pub DecodesBy : (rvc : Bool) → (word : ℕ) → Plain → Option ℕ → Type 0
DecodesBy rvc w i None = DecodesPlain w i
DecodesBy rvc w i (Some h) = (rvc ≡ true) × (w ≡ h)

abbrev pub Decodes : (rvc : Bool) → (word : ℕ) → Insn → Type 0
Decodes rvc w i = DecodesBy rvc w i.plain i.half

-- some word of 32 bits is of the instruction, with the compressed instructions or without them
abbrev pub IsDecodable : Insn → Type 0
IsDecodable i = (rvc : Bool) × (w : ℕ) × (w < 2 ^ 32) × Decodes rvc w i
