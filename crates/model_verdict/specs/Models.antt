-- Models as values: what is had of one that was read, and its memory.
use Rattle.std.specs.Prelude.{ℕ, ◌≡◌, ◌<◌, ◌^◌, bit_xor, All, List, [], Option, Some, None, length, map, slice_index}
use Rattle.word_spec.specs.Words.{word}
use Rattle.word_spec.specs.Memory.{Memory}
use Rattle.word_spec.specs.State.{Written}
use Rattle.machine_spec.specs.StateText.{Layout, AreRising, known_or}
use Rattle.walk_spec.specs.Unrolled.{ByteRun, byte_of_runs}
use Rattle.table_run.specs.Traces.{byte_over}
use Rattle.model_text.specs.declared.model.Model.{Model}
use Rattle.model_text.specs.declared.model.ModelMemory.{ModelMemory}

-- the byte at the addresses that are not listed
abbrev pub filler : Option ModelMemory → ℕ
filler None = 0
filler (Some m) = m.fill

-- the bytes that are listed
abbrev pub listed : Option ModelMemory → List (ℕ × ℕ)
listed None = []
listed (Some m) = m.bytes.items

-- the bytes of a memory are bytes, by rising addresses
abbrev pub IsSoundMemory : Option ModelMemory → Type 0
IsSoundMemory m = (filler m < 256) × AreRising (listed m) × All (λ e. (e.0 < 2 ^ 32) × (e.1 < 256)) (listed m)

-- The memory of a model over the bytes of a file. Where an answer gives none, it has those bytes, and 0 elsewhere. Addresses wrap.
abbrev pub memory_over : List ByteRun → Option ModelMemory → Memory
memory_over known None = λ a. known_or (byte_of_runs known (word 32 a)) [] a
memory_over known (Some m) = λ a. byte_over m.fill m.bytes.items (word 32 a)

-- a model of the registers, flags and so many choices of a form of states
pub record IsSound (layout : Layout) (count : ℕ) (m : Model) : Type 0 where
  pub registers : length m.registers.items ≡ length layout.registers
  pub words : All (λ v. v < 2 ^ 32) m.registers.items
  pub flags : m.flags < 2 ^ length layout.flags
  pub choices : length m.choices.items ≡ count
  pub few : (n : ℕ) → slice_index m.choices.items n < 4
  pub memory : IsSoundMemory m.memory

-- a start has the registers and flags of a model, and no bytes
pub record HasModel (m : Model) (w : Written) : Type 0 where
  pub regs : w.regs ≡ m.registers.items
  pub flags : w.flags ≡ m.flags
  pub bytes : w.bytes ≡ []

-- a list of bytes, each with the bits of a fill turned
abbrev pub turned : (fill : ℕ) → List (ℕ × ℕ) → List (ℕ × ℕ)
turned fill bytes = map (λ e. (e.0, bit_xor e.1 fill)) bytes
