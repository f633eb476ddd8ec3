-- Laws of notes: a text has one meaning, or one first fault, and never both.
use Rattle.std.specs.Prelude.{ℕ, ◌↔◌, ◌≡◌, ◌<◌, ◌≤◌, ◌^◌, ◌⊎◌, List, Some, All, Contains}
use Rattle.std.specs.List.{list_all}
use Rattle.word_spec.specs.Words.{bit}
use Rattle.word_spec.specs.Memory.{Endian}
use Rattle.word_spec.specs.State.{State, IsState}
use Rattle.bilv_spec.specs.Notes.{Expr, Number, Register, Flag, Pc, Bound, Memory, Old, Not, Binary, Notes, value, is_true, put_bound, values, written_out}
use Rattle.notes_spec.specs.Scopes.{Vocabulary, Scope, Constant, Strict, Plain, Paired, in_dialect, lenient}
use Rattle.word_spec.specs.Tokens.{Token}
use Rattle.notes_spec.specs.NotesGrammar.{IsGood, Parses, Says, IsSaid, IsNotesText}
use Rattle.notes_spec.specs.NotesFaults.{NoteFault, IsFirstNoteFault}
use Rattle.notes_spec.specs.RvNames.{rv_names}
use Rattle.notes_spec.specs.ArmNames.{arm_names}

-- an `all` is 1 where its expression is true for each of its numbers, else 0
abbrev pub AllIsEach : Type 0
AllIsEach = (order : Endian) (low high : ℕ) (e : Expr) (now entry : State) →
    value order (written_out low high e) now entry ≡ bit (list_all (λ v. is_true (value order (put_bound v e) now entry)) (values low high))

-- tokens are one expression at most
abbrev pub OneExpression : Type 0
OneExpression = (s : Scope) (level : ℕ) (ts : List Token) (e f : Expr) → Parses s level ts e → Parses s level ts f → e ≡ f

-- a line says one thing at most
abbrev pub OneSaying : Type 0
OneSaying = (s : Scope) (ts : List Token) (x y : Says) → IsSaid s ts x → IsSaid s ts y → x ≡ y

-- what a line says as it must be read, it says as well with any name and any bounds of an `all`
abbrev pub StrictIsLenient : Type 0
StrictIsLenient = (s : Scope) (ts : List Token) (x : Says) → s.mode ≡ Strict → IsSaid s ts x → IsSaid (lenient s) ts x

-- a text is the text of one value of notes at most
abbrev pub OneReading : Type 0
OneReading = (v : Vocabulary) (text : List ℕ) (m n : Notes) → IsNotesText v text m → IsNotesText v text n → m ≡ n

-- a text that is notes has no first fault
abbrev pub NeverBoth : Type 0
NeverBoth = (v : Vocabulary) (text : List ℕ) (notes : Notes) (line : ℕ) (fault : NoteFault) →
    IsNotesText v text notes → ¬ IsFirstNoteFault v text line fault

-- a text is notes, or it has a first fault
abbrev pub OneOfBoth : Type 0
OneOfBoth = (v : Vocabulary) (text : List ℕ) →
    ((notes : Notes) × IsNotesText v text notes) ⊎ ((line : ℕ) × (fault : NoteFault) × IsFirstNoteFault v text line fault)

-- a text has one first fault at most
abbrev pub OneNoteFault : Type 0
OneNoteFault = (v : Vocabulary) (text : List ℕ) (line other : ℕ) (fault different : NoteFault) →
    IsFirstNoteFault v text line fault → IsFirstNoteFault v text other different → (line ≡ other) × (fault ≡ different)

-- an expression of words: its numbers are below 2 ^ 32, and its loads are of 4 bytes at most
abbrev pub IsOfWords : Expr → Type 0
IsOfWords (Number n) = n < 2 ^ 32
IsOfWords (Register r) = Unit {0}
IsOfWords (Flag f) = Unit {0}
IsOfWords Pc = Unit {0}
IsOfWords Bound = Unit {0}
IsOfWords (Memory n a) = (n ≤ 4) × IsOfWords a
IsOfWords (Old a) = IsOfWords a
IsOfWords (Not a) = IsOfWords a
IsOfWords (Binary op a b) = IsOfWords a × IsOfWords b

-- the value of an expression of words is a word
abbrev pub WordValue : Type 0
WordValue = (order : Endian) (e : Expr) (now entry : State) → IsOfWords e → IsState now → IsState entry → value order e now entry < 2 ^ 32

-- what tokens say that may stand in a line is of words, where names and constants are
abbrev pub WordsSaid : Type 0
WordsSaid = (s : Scope) → ((w : List ℕ) (e : Expr) → s.names w ≡ Some e → IsOfWords e) → ((c : Constant) → Contains s.consts c → c.number < 2 ^ 32) →
    (level : ℕ) (ts : List Token) (e : Expr) → All IsGood ts → Parses s level ts e → IsOfWords e

-- the names of both machines are of words
abbrev pub MachineNamesOfWords : Type 0
MachineNamesOfWords = ((w : List ℕ) (e : Expr) → rv_names w ≡ Some e → IsOfWords e) × ((w : List ℕ) (e : Expr) → arm_names w ≡ Some e → IsOfWords e)

-- the notes of a function that is compared have neither invariants nor contracts: they are notes where there are no such lines
abbrev pub PairedIsPlain : Type 0
PairedIsPlain = (v : Vocabulary) (text : List ℕ) (notes : Notes) → IsNotesText (in_dialect Paired v) text notes ↔ IsNotesText (in_dialect Plain v) text notes
