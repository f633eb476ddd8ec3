-- The symbols of a file, and what a name finds among them (System V ABI, object files: symbol table).
use Rattle.std.specs.Prelude.{ℕ, zero, suc, ◌+◌, ◌*◌, ◌/◌, ◌%◌, ◌==◌, ◌&&◌, Bool, not, nat_eq, nat_lt, if◌then◌else◌, max, List, [], ◌∷◌, ◌++◌, Option, None, slice_index, drop, take_while, filter, find}
use Rattle.std.specs.List.{list_all, common_prefix_len}
use Rattle.std.specs.Option.{option_map}
use Rattle.std.specs.Str.{bytes_eq}
use Rattle.bilv_spec.specs.Elf.{field}
use Rattle.bilv_spec.specs.ElfFaults.{Section, section, section_count}

-- a symbol: st_name, st_value and st_size
pub record Symbol : Type 0 where
  pub name : List ℕ
  pub value : ℕ
  pub size : ℕ

-- a byte of a name is no NUL, which ends it
abbrev pub is_letter : ℕ → Bool
is_letter b = not (b == 0)

-- the name in front of a text
abbrev pub name_of : List ℕ → List ℕ
name_of text = take_while is_letter text

-- The entry at an offset is of a type that stands for an address, which the low half of st_info tells: STT_NOTYPE is 0, STT_OBJECT is 1, STT_FUNC is 2. It is
-- defined: st_shndx is not SHN_UNDEF, which is 0.
abbrev pub is_listed : List ℕ → ℕ → Bool
is_listed file at = nat_lt (slice_index file (at + 12) % 16) 3 && not (field file 2 (at + 14) == 0)

-- the symbol of the entry at an offset, whose name stands in the table of names that begins at another
abbrev pub symbol_at : List ℕ → (names : ℕ) → ℕ → Symbol
symbol_at file names at = record {
  name = name_of (drop (names + field file 4 at) file);
  value = field file 4 (at + 4);
  size = field file 4 (at + 8);
}

-- the symbol of an entry, if it is listed
abbrev pub entry : List ℕ → (names : ℕ) → ℕ → List Symbol
entry file names at = if is_listed file at then symbol_at file names at ∷ [] else []

-- the symbols of the first n entries, of 16 bytes each, from an offset on
abbrev pub symbols_to : List ℕ → (names : ℕ) → ℕ → ℕ → List Symbol
symbols_to file names at zero = []
symbols_to file names at (suc n) = symbols_to file names at n ++ entry file names (at + 16 * n)

-- the symbols of a section: SHT_SYMTAB is 2, and sh_link is the section of the names
abbrev pub symbols_in : List ℕ → Section → List Symbol
symbols_in file s = if s.kind == 2 then symbols_to file (section file s.link).offset s.offset (s.size / 16) else []

-- the symbols of the first n sections
abbrev pub sections_to : List ℕ → ℕ → List Symbol
sections_to file zero = []
sections_to file (suc n) = sections_to file n ++ symbols_in file (section file n)

-- the symbols of a file, in its order; where e_shoff is 0 there are no sections
abbrev pub symbols_of : List ℕ → List Symbol
symbols_of file = if field file 4 32 == 0 then [] else sections_to file (section_count file)

-- what a name finds: nothing, with the nearest name; the value and the size of the symbols of the name; or symbols that differ
pub data Lookup : Type 0 where
  Missing : Option (List ℕ) → Lookup
  One : (value size : ℕ) → Lookup
  Ambiguous : Lookup

-- how many bytes two names share from the front on
abbrev pub shared : List ℕ → List ℕ → ℕ
shared a b = common_prefix_len nat_eq a b

-- the most bytes that a symbol's name shares with a name
abbrev pub most_shared : List ℕ → List Symbol → ℕ
most_shared name [] = 0
most_shared name (s ∷ rest) = max (shared name s.name) (most_shared name rest)

-- the first name that shares most with a name, where one shares something
abbrev pub nearest : List ℕ → List Symbol → Option (List ℕ)
nearest name table =
    if most_shared name table == 0 then None else option_map (λ s. s.name) (find (λ s. shared name s.name == most_shared name table) table)

-- the symbols of a name
abbrev pub named : List ℕ → List Symbol → List Symbol
named name table = filter (λ s. bytes_eq s.name name) table

-- two symbols have one value and one size
abbrev pub agree : Symbol → Symbol → Bool
agree s t = (s.value == t.value) && (s.size == t.size)

-- what the symbols of a name say; where there are none, the nearest name stands for them
abbrev pub said : (near : Option (List ℕ)) → List Symbol → Lookup
said near [] = Missing near
said near (s ∷ rest) = if list_all (agree s) rest then One s.value s.size else Ambiguous

-- what a name finds in a table of symbols
abbrev pub lookup : List ℕ → List Symbol → Lookup
lookup name table = said (nearest name table) (named name table)
