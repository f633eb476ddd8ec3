-- What is kept of an answer's tokens.
use Rattle.std.specs.Prelude.{ℕ, ◌≡◌, ◌<◌, ◌-◌, ◌%◌, ◌^◌, true, false, List, Option, Some, None, is_some, length, slice_index_or, codes}
use Rattle.std.specs.List.{list_any}
use Rattle.std.specs.Option.{option_map}
use Rattle.std.specs.Str.{bytes_eq}
use Rattle.word_spec.specs.Words.{bit_at}
use Rattle.machine_spec.specs.StateText.{Layout}
use Rattle.model_spec.specs.ModelText.{Value, Definition, array_sort}
use Rattle.model_spec.specs.Models.{given, word_of, byte_of}
use Rattle.model_text.specs.declared.draft.Draft.{Draft}
use Rattle.model_text.specs.declared.stores.Stored.{Stored}
use Rattle.model_text.specs.declared.findings.Findings.{Findings}
use Rattle.model_text.specs.declared.reading.Reading.{Reading}
use Rattle.model_text.specs.Bits.{capped_bits}
use Rattle.model_text.specs.Stores.{last_byte, AreBytes}
use Rattle.model_text.specs.Symbols.{sort_of, is_memory, is_other, pattern_of, name_at, IsNamed, IsOtherName}
use Rattle.model_text.specs.Pieces.{pieces_of, left_of}
use Rattle.model_text.specs.Places.{is_closing}
use Rattle.model_text.specs.Faults.{Found, kept_of}
use Rattle.model_text.specs.Traces.{Trace, At, is_of_sort}

-- an array that is kept
pub record IsStored (s : Stored) (v : Value) : Type 0 where
  pub bytes : (a : ℕ) → last_byte s.fill s.stores.items a ≡ byte_of v a
  pub ranges : AreBytes s.stores.items

-- The last definition of a declared symbol. What is kept of its value holds where the value is of the symbol's sort.
pub record IsDraft (d : Draft) (tr : Trace) : Type 0 where
  pub symbol : d.symbol ≡ tr.symbol
  pub sort_left : pieces_of d.sort_left ≡ left_of (pattern_of tr.symbol) tr.sort
  pub constant_left : pieces_of d.constant_left ≡ left_of array_sort tr.constant
  pub bits : d.bits ≡ capped_bits tr.bits
  pub index : d.index ≡ capped_bits tr.index
  pub good : d.good ≡ is_of_sort (sort_of tr.symbol) tr.value
  pub number : is_memory tr.symbol ≡ false → d.good ≡ true → d.number ≡ word_of (Some tr.value)
  pub memory : is_memory tr.symbol ≡ true → d.good ≡ true → (a : ℕ) → last_byte d.stored.fill d.stored.stores.items a ≡ byte_of tr.value a
  pub ranges : AreBytes d.stored.stores.items
  pub name : is_other tr.symbol ≡ true → d.name.items ≡ tr.name

-- the word of a symbol: whether it is given, and its value where there is no fault
abbrev pub or_zero : Option ℕ → ℕ
or_zero None = 0
or_zero (Some n) = n

-- the last bits of words, of which the last is flag 0
pub record AreFlags (words : List (Option ℕ)) (flags : ℕ) : Type 0 where
  pub small : flags < 2 ^ length words
  pub bits : (f : ℕ) → f < length words → bit_at f flags ≡ or_zero (slice_index_or words (length words - 1 - f) None) % 2

pub record IsWordOf (kept : Option Found) (o : Option ℕ) (v : Option Value) : Type 0 where
  pub given : is_some o ≡ is_some v
  pub word : kept ≡ None → or_zero o ≡ word_of v

-- the array of the memory likewise
abbrev pub IsMemoryOf : Option Found → Option Stored → Option Value → Type 0
IsMemoryOf kept None None = Unit {0}
IsMemoryOf kept None (Some v) = ⊥
IsMemoryOf kept (Some s) None = ⊥
IsMemoryOf kept (Some s) (Some v) = kept ≡ None → IsStored s v

-- the names of words are apart from each other and from the memory's
pub record AreApart (layout : Layout) (count : ℕ) : Type 0 where
  pub each : (i j : ℕ) → i < count → j < count → bytes_eq (name_at layout i) (name_at layout j) ≡ true → i ≡ j
  pub memory : (i : ℕ) → i < count → bytes_eq (name_at layout i) (codes "mem") ≡ false

-- the values that are given
pub record AreFindings (layout : Layout) (count : ℕ) (kept : Option Found) (f : Findings) (ds : List Definition) : Type 0 where
  pub apart : AreApart layout count
  pub count_is : length f.words.items ≡ count
  pub words : (i : ℕ) → i < count → IsWordOf kept (slice_index_or f.words.items i None) (given ds (name_at layout i))
  pub memory : IsMemoryOf kept f.memory (given ds (codes "mem"))
  pub others : (w : List ℕ) → IsOtherName layout count w → list_any (λ n. bytes_eq n.items w) f.others.items ≡ is_some (given ds w)

-- what is kept of the tokens
pub record IsLearnt (layout : Layout) (count : ℕ) (kept : Option Found) (d : Draft) (f : Findings) (tr : Trace) : Type 0 where
  pub draft : IsDraft d tr
  pub findings : AreFindings layout count kept f tr.definitions
  pub named : IsNamed layout count tr.symbol tr.name

-- all that is kept
pub record Keeps (layout : Layout) (count : ℕ) (r : Reading) (s : At) : Type 0 where
  pub place : r.place ≡ s.place
  pub begun : r.begun ≡ s.begun
  pub kept : option_map kept_of r.kept ≡ s.kept
  pub learnt : IsLearnt layout count s.kept r.draft r.findings s.trace
  pub closing : is_closing s.place ≡ true → s.kept ≡ None → r.draft.good ≡ true
