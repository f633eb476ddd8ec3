-- What the command that verifies answers to two files.
use Rattle.std.specs.Prelude.{ℕ, ◌≡◌, ◌<◌, ◌≤◌, List, [], ◌∷◌, ◌++◌, codes, length}
use Rattle.bilv_spec.specs.ElfFaults as elf
use Rattle.notes_spec.specs.NotesFaults as faults
use Rattle.bilv_spec.specs.Notes.{Notes, Named}
use Rattle.bilv_spec.specs.Run.{Program}
use Rattle.notes_spec.specs.Scopes.{Dialect, Plain, in_dialect}
use Rattle.notes_spec.specs.NotesGrammar.{IsNotesText}
use Rattle.call_spec.specs.Calls.{Options, Budget, Answer, plain_answer}
use Rattle.bilv_spec.specs.Files.{machine_of, layout_of}
use Rattle.notes_spec.specs.Programs.{vocabulary_of, IsProgram}
use Rattle.bilv_spec.specs.Answers.{IsReported}
use Rattle.word_spec.specs.Texts.{line, spaced, number_text, word_text}

-- the texts of refusals
abbrev pub elf_fault_words : elf.FileFault → List ℕ
elf_fault_words elf.ShortFile = codes "E1 Short"
elf_fault_words elf.BadMagic = codes "E2 Magic"
elf_fault_words elf.BadClass = codes "E3 Class"
elf_fault_words elf.BadData = codes "E4 Data"
elf_fault_words elf.BadVersion = codes "E5 Version"
elf_fault_words elf.BadType = codes "E6 Type"
elf_fault_words elf.BadMachine = codes "E7 Machine"
elf_fault_words elf.BadHeaderTable = codes "E8 HeaderTable"
elf_fault_words elf.BadSegmentRange = codes "E9 SegmentRange"
elf_fault_words elf.BadFileSize = codes "E10 FileSize"
elf_fault_words elf.SegmentsOverlap = codes "E11 Overlap"
elf_fault_words elf.BadSymbolTable = codes "E12 SymbolTable"

-- a fault of a line
abbrev pub note_fault_words : faults.NoteFault → List ℕ
note_fault_words faults.LimitFault = codes "N1 Limit"
note_fault_words faults.ByteFault = codes "N2 Byte"
note_fault_words faults.TokenFault = codes "N3 Token"
note_fault_words faults.NumberFault = codes "N4 Number"
note_fault_words faults.DepthFault = codes "N5 Depth"
note_fault_words faults.WordFault = codes "N6 Word"
note_fault_words faults.SyntaxFault = codes "N7 Syntax"
note_fault_words faults.NameFault = codes "N8 Name"
note_fault_words faults.AlignFault = codes "N9 Align"
note_fault_words faults.RangeFault = codes "N10 Range"
note_fault_words faults.EntryFault = codes "N11 Entry"
note_fault_words faults.VersionFault = codes "N12 Version"
note_fault_words faults.ConstFault = codes "N13 Const"
note_fault_words faults.AllFault = codes "N14 All"
note_fault_words faults.MixedFault = codes "N15 Mixed"
note_fault_words faults.PairFault = codes "N16 Pair"

-- the text of a refused file
abbrev pub elf_fault_text : elf.FileFault → List ℕ
elf_fault_text f = line (codes "elf:" ++ spaced (elf_fault_words f ∷ []))

-- the text of refused notes
abbrev pub note_fault_text : ℕ → faults.NoteFault → List ℕ
note_fault_text n f = line (codes "notes: line" ++ spaced (number_text n ∷ note_fault_words f ∷ []))

-- the text of a name with several addresses
abbrev pub ambiguous_text : ℕ → ℕ → List ℕ
ambiguous_text a b = line (codes "notes: Ambiguous" ++ spaced (word_text a ∷ word_text b ∷ []))

-- the greatest length of an ELF file
abbrev pub elf_limit : ℕ
elf_limit = 16777216

-- the greatest length of notes
abbrev pub notes_limit : ℕ
notes_limit = 262144

-- an accepted file within its limit
abbrev pub IsAccepted : List ℕ → Type 0
IsAccepted file = (length file ≤ elf_limit) × elf.IsImage file

-- an ELF file is refused, with this text
pub data IsElfRefused (file : List ℕ) : (written : List ℕ) → Type 0 where
  elf_large : elf_limit < length file → IsElfRefused file (line (codes "elf: TooLarge"))
  elf_fault : (f : elf.FileFault) → length file ≤ elf_limit → elf.IsFirstFileFault file f → IsElfRefused file (elf_fault_text f)

-- notes in a dialect are refused over an accepted file, or name no function of it or several
pub data AreNotesRefusedIn (d : Dialect) (o : Options) (file text : List ℕ) : (written : List ℕ) → Type 0 where
  notes_large : notes_limit < length text → AreNotesRefusedIn d o file text (line (codes "notes: TooLarge"))
  notes_fault : (n : ℕ) (f : faults.NoteFault) → length text ≤ notes_limit → faults.IsFirstNoteFault (in_dialect d (vocabulary_of o file)) text n f →
      AreNotesRefusedIn d o file text (note_fault_text n f)
  no_function : (notes : Notes) (name : List ℕ) → length text ≤ notes_limit → IsNotesText (in_dialect d (vocabulary_of o file)) text notes →
      notes.entry ≡ Named name → ((a : ℕ) → ¬ elf.IsFunction (machine_of o file).narrow file name a) →
      AreNotesRefusedIn d o file text (line (codes "notes: NoFunction"))
  ambiguous : (notes : Notes) (name : List ℕ) (a c : ℕ) → length text ≤ notes_limit → IsNotesText (in_dialect d (vocabulary_of o file)) text notes →
      notes.entry ≡ Named name → elf.IsAmbiguous (machine_of o file).narrow file name a c → AreNotesRefusedIn d o file text (ambiguous_text a c)

-- so of notes of one function
abbrev pub AreNotesRefused : Options → (file text : List ℕ) → (written : List ℕ) → Type 0
AreNotesRefused = AreNotesRefusedIn Plain

-- the program of an accepted file and of accepted notes
abbrev pub IsFound : Options → List ℕ → List ℕ → Program → Type 0
IsFound o file text p = IsAccepted file × (length text ≤ notes_limit) × IsProgram o file text p

-- An ELF file's bytes are refused, or accepted and answered by what comes next.
pub data AfterImage (file : List ℕ) (Next : Answer → Type 0) (a : Answer) : Type 0 where
  elf_refused : (written : List ℕ) → IsElfRefused file written → a ≡ plain_answer 4 written → AfterImage file Next a
  elf_accepted : IsAccepted file → Next a → AfterImage file Next a

-- Notes over an accepted file are refused, or are a program that is answered by what comes next.
pub data AfterNotes (o : Options) (file text : List ℕ) (Next : Program → Answer → Type 0) (a : Answer) : Type 0 where
  notes_refused : (written : List ℕ) → AreNotesRefused o file text written → a ≡ plain_answer 5 written → AfterNotes o file text Next a
  program_found : (p : Program) → IsFound o file text p → Next p a → AfterNotes o file text Next a

-- the right answer of the command that verifies, for the contents of an ELF file and of notes: the first case that applies
abbrev pub IsVerified : Options → (file text : List ℕ) → Budget → Answer → Type 0
IsVerified o file text b = AfterImage file (AfterNotes o file text (λ p. IsReported p (layout_of o file) b))
