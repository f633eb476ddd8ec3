-- What is met on the way to the answer that is due.
use Rattle.std.specs.Prelude.{ℕ, ◌≡◌, List, codes}
use Rattle.call_spec.specs.Outside.{Held, Agrees, IsLonger, Rose}
use Rattle.call_spec.specs.Calls.{Options, Answer, plain_answer, read_fault}
use Rattle.answer_spec.specs.FrameAnswers.{dialect_for}
use Rattle.bilv_spec.specs.Files.{machine_of, IsFunctionAt}
use Rattle.notes_spec.specs.Scopes.{Dialect, Plain, in_dialect}
use Rattle.notes_spec.specs.Programs.{vocabulary_of}
use Rattle.notes_spec.specs.NotesGrammar.{IsNotesText}
use Rattle.notes_spec.specs.Verified.{AreNotesRefusedIn, notes_limit}
use Rattle.word_spec.specs.Texts.{line}
use Rattle.notes_value.specs.NoteViews.{notes_of}
use Rattle.notes_value.specs.Reads.{AreOver, AreReadable}
use Rattle.bilv_top.specs.declared.inputs.Found.{Found}

-- the bytes of a name were not read: a read failed, or there are more than the limit, which has an answer of its own
pub data IsUnread (held : Held) (before after limit : ℕ) (large : Answer) (a : Answer) : Type 0 where
  failed : Rose before after → a ≡ read_fault → IsUnread held before after limit large a
  longer : IsLonger held limit → a ≡ large → IsUnread held before after limit large a

-- notes in a dialect are refused over an accepted file, with this answer
abbrev pub AreNotesAnsweredIn : Dialect → Options → (file text : List ℕ) → Answer → Type 0
AreNotesAnsweredIn d o file text a = (written : List ℕ) × AreNotesRefusedIn d o file text written × (a ≡ plain_answer 5 written)

-- so of notes of one function
abbrev pub AreNotesAnswered : Options → (file text : List ℕ) → Answer → Type 0
AreNotesAnswered = AreNotesAnsweredIn Plain

-- The answer where no function is found over an accepted file: the notes of a name were not read, or are refused in the dialect of their text.
pub data IsNotesAnswerIn (d : List ℕ → Dialect) (held : Held) (before after : ℕ) (o : Options) (file : List ℕ) (a : Answer) : Type 0 where
  unread : IsUnread held before after notes_limit (plain_answer 5 (line (codes "notes: TooLarge"))) a → IsNotesAnswerIn d held before after o file a
  refused : (text : List ℕ) → Agrees held text → AreNotesAnsweredIn (d text) o file text a → IsNotesAnswerIn d held before after o file a

-- so of notes without invariants, and of notes that may have them
abbrev pub IsNotesAnswer : (held : Held) → (before after : ℕ) → Options → (file : List ℕ) → Answer → Type 0
IsNotesAnswer = IsNotesAnswerIn (λ text. Plain)

abbrev pub IsFramesAnswer : (held : Held) → (before after : ℕ) → Options → (file : List ℕ) → Answer → Type 0
IsFramesAnswer = IsNotesAnswerIn dialect_for

-- the file's machine has the registers and flags that the notes name, whatever its options
pub record IsOverFile (file : List ℕ) (f : Found) : Type 0 where
  pub readable : (o : Options) → AreReadable (machine_of o file).has_register (notes_of f.notes)
  pub over : (o : Options) → AreOver (machine_of o file).has_register (machine_of o file).has_flag (notes_of f.notes)

-- What was found over a file by some options: the notes that the text says in a dialect, the address of their function, and that they are over its machine.
pub record IsFoundIn (d : Dialect) (o : Options) (file : List ℕ) (f : Found) : Type 0 where
  pub says : IsNotesText (in_dialect d (vocabulary_of o file)) f.text.items (notes_of f.notes)
  pub at : IsFunctionAt (machine_of o file).narrow file (notes_of f.notes).entry f.entry
  pub over_file : IsOverFile file f

-- so of notes of one function
abbrev pub IsFoundBy : Options → (file : List ℕ) → Found → Type 0
IsFoundBy = IsFoundIn Plain
