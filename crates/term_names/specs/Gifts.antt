-- The terms of a state of which a part gives something.
use Rattle.std.specs.Prelude.{ℕ, ◌≡◌, ◌≤◌, ◌<◌, ◌+◌, ◌==◌, Bool, true, false, if◌then◌else◌, List, length, slice_index}
use Rattle.word_spec.specs.Words.{bit_at}
use Rattle.term_spec.specs.Terms.{TermReading, TermNode, RegisterNode, FlagNode, HasWidth, term_word}
use Rattle.term_dag.specs.Made.{Grew, InputsFrom}
use Rattle.term_names.specs.Choices.{AreWide, places}
use Rattle.term_names.specs.Chosen.{HaveSameForm}
use Rattle.term_names.specs.declared.names.Names.{Names}

-- the number is in a set that has a bit for each
abbrev pub is_in : (set n : ℕ) → Bool
is_in set n = bit_at n set == 1

-- a flag or a register of a part
abbrev pub given_node : (flag : Bool) → (part n : ℕ) → TermNode
given_node true p n = FlagNode p n
given_node false p n = RegisterNode p n

-- its width
abbrev pub given_width : (flag : Bool) → ℕ
given_width true = 1
given_width false = 32

-- and what it is under a reading
abbrev pub given_word : (flag : Bool) → (part n : ℕ) → TermReading → ℕ
given_word true p n x = x.flags p n
given_word false p n x = x.regs p n

-- The term of a flag or a register is the part's where its number is in the set, and else the one before.
pub record IsGiven (old new : List TermNode) (flag : Bool) (part set n before t : ℕ) : Type 0 where
  pub grew : Grew old new 0 0 0 0 1
  pub inputs : InputsFrom old new (λ m. (is_in set n ≡ true) × (m ≡ given_node flag part n))
  pub place : HasWidth new (given_width flag) t
  pub value : (x : TermReading) → term_word x new t ≡ (if is_in set n then given_word flag part n x else term_word x old before)

-- So are some terms, for the numbers from a first one on.
pub record AreGiven (old new : List TermNode) (flag : Bool) (part set low many : ℕ) (before ts : List ℕ) : Type 0 where
  pub grew : Grew old new 0 0 0 0 many
  pub inputs : InputsFrom old new (λ m. (i : ℕ) × (i < many) × (is_in set (low + i) ≡ true) × (m ≡ given_node flag part (low + i)))
  pub count : length ts ≡ many
  pub wide : AreWide new (given_width flag) ts
  pub value : (x : TermReading) (i : ℕ) → i < many →
      term_word x new (slice_index ts i) ≡ (if is_in set (low + i) then given_word flag part (low + i) x else term_word x old (slice_index before i))

-- the number is that of a flag or a register of the state that the part gives
abbrev pub IsGiftNumber : Names → (registers flags : ℕ) → (flag : Bool) → ℕ → Type 0
IsGiftNumber n registers flags true i = (i < length n.flags.items) × (is_in flags i ≡ true)
IsGiftNumber n registers flags false i = (n.first ≤ i) × (i < n.first + length n.registers.items) × (is_in registers i ≡ true)

-- The terms are those of a state, but for the registers and flags of two sets, which are a part's. They cost nothing.
pub record AreGiftNames (old new : List TermNode) (part registers flags : ℕ) (before n : Names) : Type 0 where
  pub form : HaveSameForm before n
  pub grew : Grew old new 0 0 0 0 (length before.registers.items + length before.flags.items)
  pub inputs : InputsFrom old new (λ m. (f : Bool) × (i : ℕ) × (m ≡ given_node f part i) × IsGiftNumber before registers flags f i)
  pub words : AreWide new 32 (places n.registers.items)
  pub bits : AreWide new 1 (places n.flags.items)
  pub memory : n.memory ≡ before.memory
  pub word_value : (x : TermReading) (i : ℕ) → i < length before.registers.items →
      term_word x new (slice_index (places n.registers.items) i)
      ≡ (if is_in registers (before.first + i) then x.regs part (before.first + i) else term_word x old (slice_index (places before.registers.items) i))
  pub bit_value : (x : TermReading) (i : ℕ) → i < length before.flags.items →
      term_word x new (slice_index (places n.flags.items) i)
      ≡ (if is_in flags i then x.flags part i else term_word x old (slice_index (places before.flags.items) i))
