-- What the reader knows of sections and symbols.
use Rattle.std.specs.Prelude.{Bool, ℕ, ◌≡◌, ◌≤◌, ◌<◌, ◌+◌, ◌*◌, ◌⊎◌, List, length}
use Rattle.bilv_spec.specs.Elf.{field}
use Rattle.bilv_spec.specs.ElfFaults.{section, section_count, IsName, IsSymbols, IsFunction, IsFunctionSymbol, IsAmbiguous}
use Rattle.elf32_reader.specs.declared.symbols.SectionHeader.{SectionHeader}
use Rattle.elf32_reader.specs.declared.symbols.Found.{Found}
use Rattle.elf32_reader.specs.declared.symbols.Found.TheVariants.{Nothing, One, Several}
use Rattle.elf32_reader.specs.declared.symbols.SymFault.{SymFault}
use Rattle.elf32_reader.specs.declared.symbols.SymFault.TheVariants.{NoFunction, Ambiguous}

-- a section header in the code is that of section i
pub record IsHeader (file : List ℕ) (i : ℕ) (s : SectionHeader) : Type 0 where
  pub kind : s.kind ≡ (section file i).kind
  pub offset : s.offset ≡ (section file i).offset
  pub size : s.size ≡ (section file i).size
  pub link : s.link ≡ (section file i).link
  pub entry_size : s.entry_size ≡ (section file i).entry_size

-- each symbol of section i has a name
abbrev pub IsNamed : List ℕ → ℕ → Type 0
IsNamed file i =
    (k : ℕ) → 16 * k < (section file i).size
    → (name : List ℕ) × IsName file (section file (section file i).link) (field file 4 ((section file i).offset + 16 * k)) name

-- a symbol of section i has no name
abbrev pub IsUnnamed : List ℕ → ℕ → Type 0
IsUnnamed file i =
    (k : ℕ) × (16 * k < (section file i).size)
    × ((name : List ℕ) → ¬ IsName file (section file (section file i).link) (field file 4 ((section file i).offset + 16 * k)) name)

-- section i and the names that it links to lie in the file
pub record IsReadable (file : List ℕ) (i : ℕ) : Type 0 where
  pub whole : (m : ℕ) × ((section file i).size ≡ 16 * m)
  pub symbols : (section file i).offset + (section file i).size ≤ length file
  pub link : (section file i).link < section_count file
  pub names : (section file (section file i).link).offset + (section file (section file i).link).size ≤ length file

-- a symbol before symbol k of section i, or in a section before, is the function
abbrev pub IsSeen : (narrow : Bool) → List ℕ → List ℕ → ℕ → ℕ → ℕ → Type 0
IsSeen narrow file name i k a =
    (j m : ℕ) × IsSymbols file j × (16 * m < (section file j).size) × ((j < i) ⊎ ((j ≡ i) × (m < k))) × IsFunctionSymbol narrow file j m name a

-- the two least of the addresses that have a property
abbrev pub IsLeast : (ℕ → Type 0) → Found → Type 0
IsLeast P Nothing = (a : ℕ) → ¬ P a
IsLeast P (One a) = P a × ((b : ℕ) → P b → b ≡ a)
IsLeast P (Several a b) = P a × P b × (a < b) × ((c : ℕ) → P c → (c ≡ a) ⊎ (b ≤ c))

-- the two least addresses with one address more
abbrev pub Adds : Found → ℕ → Found → Type 0
Adds Nothing a new = new ≡ One a
Adds (One b) a new = (a ≡ b → new ≡ One b) × (a < b → new ≡ Several a b) × (b < a → new ≡ Several b a)
Adds (Several b c) a new =
    (a ≡ b → new ≡ Several b c) × (a < b → new ≡ Several a b) × (b < a → a < c → new ≡ Several b a)
    × (b < a → c ≤ a → new ≡ Several b c)

-- why a name does not give one address
abbrev pub IsMissed : (narrow : Bool) → List ℕ → List ℕ → SymFault → Type 0
IsMissed narrow file name NoFunction = (a : ℕ) → ¬ IsFunction narrow file name a
IsMissed narrow file name (Ambiguous a b) = IsAmbiguous narrow file name a b
