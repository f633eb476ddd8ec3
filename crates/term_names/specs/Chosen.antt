-- The terms of the state of a part, and of one of two states.
use Rattle.std.specs.Prelude.{ℕ, ◌≡◌, ◌≤◌, ◌<◌, ◌+◌, ◌*◌, List, length, slice_index}
use Rattle.term_spec.specs.Terms.{TermReading, InRange, TermNode, RegisterNode, FlagNode, MemoryNode, HasMemory, term_value, term_word}
use Rattle.walk_spec.specs.Unrolled.{Carried}
use Rattle.term_spec.specs.Passive.{AreNames, Denotes}
use Rattle.term_dag.specs.Made.{Grew, InputsFrom}
use Rattle.term_names.specs.Views.{form_of, names_of}
use Rattle.term_names.specs.Choices.{AreWide, differs, differing}
use Rattle.term_names.specs.declared.names.Names.{Names}

-- the same terms
pub record HaveSameTerms (a b : Names) : Type 0 where
  pub first : a.first ≡ b.first
  pub registers : a.registers.items ≡ b.registers.items
  pub flags : a.flags.items ≡ b.flags.items
  pub memory : a.memory ≡ b.memory

-- terms for the same registers and flags
pub record HaveSameForm (a b : Names) : Type 0 where
  pub first : a.first ≡ b.first
  pub registers : length a.registers.items ≡ length b.registers.items
  pub flags : length a.flags.items ≡ length b.flags.items

-- a register or a flag of the form, or the memory, of a part
abbrev pub IsOfPart : (part first registers flags : ℕ) → TermNode → Type 0
IsOfPart part first registers flags (RegisterNode p r) = (p ≡ part) × (first ≤ r) × (r < first + registers)
IsOfPart part first registers flags (FlagNode p f) = (p ≡ part) × (f < flags)
IsOfPart part first registers flags (MemoryNode p) = p ≡ part
IsOfPart part first registers flags m = ⊥

-- and of the part that a program has at entry
abbrev pub IsOfForm : (first registers flags : ℕ) → TermNode → Type 0
IsOfForm first registers flags m = IsOfPart 0 first registers flags m

-- what a reading gives in a part
abbrev pub at_part : TermReading → (part : ℕ) → Carried
at_part x p = record { regs = x.regs p; flags = x.flags p; mem = x.mem p }

-- and at entry
abbrev pub at_entry : TermReading → Carried
at_entry x = at_part x 0

-- The terms are those of the registers of a part, from a first one on.
pub record ArePartRegisters (old new : List TermNode) (part low number : ℕ) (ts : List ℕ) : Type 0 where
  pub grew : Grew old new 0 0 0 0 number
  pub inputs : InputsFrom old new (IsOfPart part low number 0)
  pub count : length ts ≡ number
  pub wide : AreWide new 32 ts
  pub value : (x : TermReading) (i : ℕ) → i < number → term_word x new (slice_index ts i) ≡ x.regs part (low + i)

-- The terms are those of the flags of a part.
pub record ArePartFlags (old new : List TermNode) (part number : ℕ) (ts : List ℕ) : Type 0 where
  pub grew : Grew old new 0 0 0 0 number
  pub inputs : InputsFrom old new (IsOfPart part 0 0 number)
  pub count : length ts ≡ number
  pub wide : AreWide new 1 ts
  pub value : (x : TermReading) (i : ℕ) → i < number → term_word x new (slice_index ts i) ≡ x.flags part i

-- The terms are those of the state of a part, for so many registers from a first one on and so many flags. They cost nothing.
pub record ArePartNames (old new : List TermNode) (part low words bits : ℕ) (n : Names) : Type 0 where
  pub first : n.first ≡ low
  pub registers : length n.registers.items ≡ words
  pub flags : length n.flags.items ≡ bits
  pub grew : Grew old new 0 0 0 0 (words + bits + 1)
  pub inputs : InputsFrom old new (IsOfPart part low words bits)
  pub names : AreNames (form_of n) new (names_of n)
  pub denotes : (x : TermReading) → InRange x → Denotes (form_of n) new x (names_of n) (at_part x part)

-- and of the state at entry
abbrev pub AreEntryNames : (old new : List TermNode) → (low words bits : ℕ) → Names → Type 0
AreEntryNames old new low words bits n = ArePartNames old new 0 low words bits n

-- the bits of registers and flags that differ
abbrev pub differing_bits : Names → Names → ℕ
differing_bits a b = 32 * differing (names_of a).registers (names_of b).registers + differing (names_of a).flags (names_of b).flags

-- whether the memories differ
abbrev pub differing_memory : Names → Names → ℕ
differing_memory a b = differs a.memory.0 b.memory.0

-- how many terms differ
abbrev pub differing_terms : Names → Names → ℕ
differing_terms a b = differing (names_of a).registers (names_of b).registers + differing (names_of a).flags (names_of b).flags + differing_memory a b

-- A memory is one of two, by a condition.
pub record IsSelectedMemory (old new : List TermNode) (condition a b t : ℕ) : Type 0 where
  pub grew : Grew old new 0 0 0 (differs a b) (2 * differs a b)
  pub inputs : InputsFrom old new (λ m. ⊥)
  pub place : HasMemory new t
  pub kept : a ≡ b → t ≡ a
  pub when_true : (x : TermReading) → InRange x → term_word x old condition ≡ 1 → (term_value x new t).bytes ≡ (term_value x old a).bytes
  pub when_false : (x : TermReading) → InRange x → term_word x old condition ≡ 0 → (term_value x new t).bytes ≡ (term_value x old b).bytes

-- The terms of one of two states, by a condition: where it is 1 they have the values of the first, where it is 0 those of the second. Only what differs costs;
-- what is one term in both stays so.
pub record AreSelected (old new : List TermNode) (condition : ℕ) (a b n : Names) : Type 0 where
  pub form : HaveSameForm a n
  pub grew : Grew old new (differing_bits a b) 0 0 (differing_memory a b) (2 * differing_terms a b)
  pub inputs : InputsFrom old new (λ m. ⊥)
  pub names : AreNames (form_of n) new (names_of n)
  pub kept_registers : (i : ℕ) → i < length a.registers.items → slice_index (names_of a).registers i ≡ slice_index (names_of b).registers i →
      slice_index (names_of n).registers i ≡ slice_index (names_of a).registers i
  pub kept_flags : (f : ℕ) → f < length a.flags.items → slice_index (names_of a).flags f ≡ slice_index (names_of b).flags f →
      slice_index (names_of n).flags f ≡ slice_index (names_of a).flags f
  pub kept_memory : a.memory.0 ≡ b.memory.0 → n.memory.0 ≡ a.memory.0
  pub when_true : (x : TermReading) → InRange x → term_word x old condition ≡ 1 → (c : Carried) →
      Denotes (form_of a) old x (names_of a) c → Denotes (form_of n) new x (names_of n) c
  pub when_false : (x : TermReading) → InRange x → term_word x old condition ≡ 0 → (c : Carried) →
      Denotes (form_of b) old x (names_of b) c → Denotes (form_of n) new x (names_of n) c
