-- The values that answers give.
use Rattle.std.specs.Prelude.{ℕ, ◌≡◌, ◌<◌, ◌-◌, ◌^◌, List, [], Option, Some, None, length, All, slice_index, slice_index_or, codes}
use Rattle.word_spec.specs.Words.{bit_at}
use Rattle.machine_spec.specs.StateText.{Layout, AreRising}
use Rattle.bilv_spec.specs.Scripts.{choice_name}
use Rattle.model_spec.specs.ModelText.{Value, Definition}
use Rattle.model_spec.specs.Models.{given, word_of, byte_of}
use Rattle.model_text.specs.declared.model.Model.{Model}
use Rattle.model_text.specs.declared.model.ModelMemory.{ModelMemory}
use Rattle.model_text.specs.Stores.{byte_or, AreBytes}

-- the memory is that of a value
pub record IsMemory (v : Value) (m : ModelMemory) : Type 0 where
  pub bytes : (a : ℕ) → byte_or m.fill m.bytes.items a ≡ byte_of v a
  pub rising : AreRising m.bytes.items
  pub ranges : AreBytes m.bytes.items

-- a memory is there exactly where one is given
abbrev pub IsMemoryIf : Option Value → Option ModelMemory → Type 0
IsMemoryIf None None = Unit {0}
IsMemoryIf None (Some m) = ⊥
IsMemoryIf (Some v) None = ⊥
IsMemoryIf (Some v) (Some m) = IsMemory v m

-- The values that definitions give to the symbols of a layout and of so many points: 0 where they give none, but to the memory.
pub record IsModelOf (layout : Layout) (points : ℕ) (ds : List Definition) (m : Model) : Type 0 where
  pub registers : length m.registers.items ≡ length layout.registers
  pub register : (i : ℕ) → i < length layout.registers → slice_index m.registers.items i ≡ word_of (given ds (slice_index_or layout.registers i []))
  pub flags : m.flags < 2 ^ length layout.flags
  pub flag : (f : ℕ) → f < length layout.flags →
      bit_at f m.flags ≡ word_of (given ds (slice_index_or layout.flags (length layout.flags - 1 - f) []))
  pub choices : length m.choices.items ≡ points
  pub choice : (n : ℕ) → n < points → slice_index m.choices.items n ≡ word_of (given ds (choice_name n))
  pub small : All (λ c. c < 4) m.choices.items
  pub memory : IsMemoryIf (given ds (codes "mem")) m.memory
