-- Laws of notes with invariants and contracts: a text says them once, and each text that is notes says them.
use Rattle.std.specs.Prelude.{ℕ, ◌≡◌, List, [], slice_get, Contains, Some}
use Rattle.machine_spec.specs.Machine.{IsAtPlace}
use Rattle.bilv_spec.specs.Notes.{Notes, Assert}
use Rattle.frame_spec.specs.Frames.{Contract}
use Rattle.frame_spec.specs.Theorems.{IsOfNow}
use Rattle.notes_spec.specs.Scopes.{Vocabulary, Plain, in_dialect}
use Rattle.notes_spec.specs.NotesGrammar.{IsNotesText}
use Rattle.notes_spec.specs.FrameNotes.{FrameNotes, IsFrameText}

-- a text says one value of such notes at most
abbrev pub OneFrameReading : Type 0
OneFrameReading = (v : Vocabulary) (text : List ℕ) (m n : FrameNotes) → IsFrameText v text m → IsFrameText v text n → m ≡ n

-- a text that is notes says such notes
abbrev pub NotesAreFramed : Type 0
NotesAreFramed = (v : Vocabulary) (text : List ℕ) (notes : Notes) → IsNotesText v text notes → (n : FrameNotes) × (n.notes ≡ notes) × IsFrameText v text n

-- where lines of invariants and contracts are none, there are neither
abbrev pub PlainHasNone : Type 0
PlainHasNone = (v : Vocabulary) (text : List ℕ) (n : FrameNotes) → IsFrameText (in_dialect Plain v) text n → (n.invariants ≡ []) × (n.contracts ≡ [])

-- With a contract there are no invariants, and no assert line has values at entry; a row can stand at the address of each contract, and no two contracts have
-- one address. So what is asked of frames of contracts is had of every text.
abbrev pub ContractsAreApart : Type 0
ContractsAreApart = (v : Vocabulary) (text : List ℕ) (n : FrameNotes) → IsFrameText v text n → (rank : ℕ) (x : Contract) → slice_get n.contracts rank ≡ Some x →
    (n.invariants ≡ []) × ((a : Assert) → Contains n.notes.asserts a → IsOfNow a.says) × IsAtPlace v.narrow x.at
    × ((other : ℕ) (y : Contract) → slice_get n.contracts other ≡ Some y → x.at ≡ y.at → rank ≡ other)
