-- Which files are refused, and the functions that the symbols name (System V ABI, chapters 4 and 5).
use Rattle.std.specs.Prelude.{Bool, ℕ, ◌≡◌, ◌≢◌, ◌≤◌, ◌<◌, ◌+◌, ◌*◌, ◌%◌, ◌^◌, ◌⊎◌, List, [], ◌∷◌, length, take, drop, slice_index, slice_get, Some}
use Rattle.machine_spec.specs.Machine.{IsAtPlace}
use Rattle.bilv_spec.specs.Elf.{field, Segment, segments}

-- a section header (System V ABI, object files: sections)
pub record Section : Type 0 where
  pub kind : ℕ
  pub offset : ℕ
  pub size : ℕ
  pub link : ℕ
  pub entry_size : ℕ

-- the section header at an offset
abbrev pub section_at : List ℕ → ℕ → Section
section_at file at = record {
  kind = field file 4 (at + 4);
  offset = field file 4 (at + 16);
  size = field file 4 (at + 20);
  link = field file 4 (at + 24);
  entry_size = field file 4 (at + 36);
}

-- how many section headers there are
abbrev pub section_count : List ℕ → ℕ
section_count file = field file 2 48

-- a section header by its number
abbrev pub section : List ℕ → ℕ → Section
section file i = section_at file (field file 4 32 + 40 * i)

-- there are sections
abbrev pub HasSections : List ℕ → Type 0
HasSections file = (field file 4 32 ≢ 0) × (section_count file ≢ 0)

-- a symbol table, SHT_SYMTAB (System V ABI, object files: symbol table)
abbrev pub IsSymbols : List ℕ → ℕ → Type 0
IsSymbols file i = HasSections file × (i < section_count file) × ((section file i).kind ≡ 2)

-- the text of a name ends in a NUL inside its table
abbrev pub IsName : List ℕ → Section → ℕ → List ℕ → Type 0
IsName file table at name =
    (at + length name < table.size) × (take (length name) (drop (table.offset + at) file) ≡ name)
    × (slice_index file (table.offset + at + length name) ≡ 0) × ((i : ℕ) → i < length name → slice_index name i ≢ 0)

-- symbol k of section i is the function name at the address a, at which a row can stand: STT_FUNC is 2, and it is defined in some section
abbrev pub IsFunctionSymbol : (narrow : Bool) → List ℕ → ℕ → ℕ → List ℕ → ℕ → Type 0
IsFunctionSymbol narrow file i k name a =
    let at = (section file i).offset + 16 * k in
    IsName file (section file (section file i).link) (field file 4 at) name
    × (field file 4 (at + 4) ≡ a) × (slice_index file (at + 12) % 16 ≡ 2) × (field file 2 (at + 14) ≢ 0) × IsAtPlace narrow a

-- a symbol is the function name at the address a
abbrev pub IsFunction : (narrow : Bool) → List ℕ → List ℕ → ℕ → Type 0
IsFunction narrow file name a = (i k : ℕ) × IsSymbols file i × (16 * k < (section file i).size) × IsFunctionSymbol narrow file i k name a

-- a symbol table that is refused
abbrev pub IsBadSymbols : List ℕ → ℕ → Type 0
IsBadSymbols file i =
    let s = section file i in
    (s.entry_size ≢ 16) ⊎ (s.size % 16 ≢ 0) ⊎ (length file < s.offset + s.size)
    ⊎ (section_count file ≤ s.link) ⊎ ((section file s.link).kind ≢ 3) ⊎ (length file < (section file s.link).offset + (section file s.link).size)
    ⊎ ((k : ℕ) × (16 * k < s.size) × ((name : List ℕ) → ¬ IsName file (section file s.link) (field file 4 (s.offset + 16 * k)) name))

-- why a file is refused
pub data FileFault : Type 0 where
  ShortFile : FileFault
  BadMagic : FileFault
  BadClass : FileFault
  BadData : FileFault
  BadVersion : FileFault
  BadType : FileFault
  BadMachine : FileFault
  BadHeaderTable : FileFault
  BadSegmentRange : FileFault
  BadFileSize : FileFault
  SegmentsOverlap : FileFault
  BadSymbolTable : FileFault

-- a segment that is loaded
abbrev pub IsLoad : List ℕ → ℕ → Segment → Type 0
IsLoad file i s = (slice_get (segments file) i ≡ Some s) × (s.kind ≡ 1)

-- where a fault applies
abbrev pub FileFaultApplies : List ℕ → FileFault → Type 0
FileFaultApplies file ShortFile = length file < 52
FileFaultApplies file BadMagic = take 4 file ≢ 0x7f ∷ 0x45 ∷ 0x4c ∷ 0x46 ∷ []
FileFaultApplies file BadClass = slice_index file 4 ≢ 1
FileFaultApplies file BadData = (slice_index file 5 ≢ 1) × (slice_index file 5 ≢ 2)
FileFaultApplies file BadVersion = (slice_index file 6 ≢ 1) ⊎ (field file 4 20 ≢ 1)
FileFaultApplies file BadType = (field file 2 16 ≢ 2) × (field file 2 16 ≢ 3)
FileFaultApplies file BadMachine =
    ((field file 2 18 ≢ 40) × (field file 2 18 ≢ 243)) ⊎ ((field file 2 18 ≡ 243) × (slice_index file 5 ≡ 2))
FileFaultApplies file BadHeaderTable =
    ((field file 2 44 ≢ 0) × (field file 2 42 ≢ 32)) ⊎ (field file 2 44 ≡ 65535) ⊎ (length file < field file 4 28 + 32 * field file 2 44)
FileFaultApplies file BadSegmentRange = (i : ℕ) × (s : Segment) × IsLoad file i s × (2 ^ 32 < s.address + s.in_memory)
FileFaultApplies file BadFileSize = (i : ℕ) × (s : Segment) × IsLoad file i s × ((s.in_memory < s.in_file) ⊎ (length file < s.offset + s.in_file))
FileFaultApplies file SegmentsOverlap =
    (i j a : ℕ) × (s t : Segment) × IsLoad file i s × IsLoad file j t × (i < j)
    × (s.address ≤ a) × (a < s.address + s.in_memory) × (t.address ≤ a) × (a < t.address + t.in_memory)
FileFaultApplies file BadSymbolTable =
    HasSections file
    × ((field file 2 46 ≢ 40) ⊎ (length file < field file 4 32 + 40 * section_count file) ⊎ ((i : ℕ) × IsSymbols file i × IsBadSymbols file i))

-- the faults in their order
abbrev pub file_fault_rank : FileFault → ℕ
file_fault_rank ShortFile = 1
file_fault_rank BadMagic = 2
file_fault_rank BadClass = 3
file_fault_rank BadData = 4
file_fault_rank BadVersion = 5
file_fault_rank BadType = 6
file_fault_rank BadMachine = 7
file_fault_rank BadHeaderTable = 8
file_fault_rank BadSegmentRange = 9
file_fault_rank BadFileSize = 10
file_fault_rank SegmentsOverlap = 11
file_fault_rank BadSymbolTable = 12

-- the first fault that applies
abbrev pub IsFirstFileFault : List ℕ → FileFault → Type 0
IsFirstFileFault file f = FileFaultApplies file f × ((g : FileFault) → file_fault_rank g < file_fault_rank f → ¬ FileFaultApplies file g)

-- no fault applies
abbrev pub IsImage : List ℕ → Type 0
IsImage file = (f : FileFault) → ¬ FileFaultApplies file f

-- what a name finds
abbrev pub Finds : (narrow : Bool) → List ℕ → List ℕ → ℕ → Type 0
Finds narrow file name a = IsFunction narrow file name a × ((b : ℕ) → IsFunction narrow file name b → b ≡ a)

-- the two least addresses of a name that has several
abbrev pub IsAmbiguous : (narrow : Bool) → List ℕ → List ℕ → ℕ → ℕ → Type 0
IsAmbiguous narrow file name a b =
    IsFunction narrow file name a × IsFunction narrow file name b × (a < b)
    × ((c : ℕ) → IsFunction narrow file name c → (c ≡ a) ⊎ (b ≤ c))
