-- What is told of notes over an ELF file: warnings, and the status and the text of a refusal.
use Rattle.std.specs.Prelude.{ℕ, ◌≡◌, ◌≤◌, ◌<◌, List, [], codes, length}
use Rattle.answer_spec.specs.FrameAnswers.{dialect_for, IsWhole}
use Rattle.bilv_spec.specs.ElfFaults.{FileFault, IsFirstFileFault, IsImage}
use Rattle.call_spec.specs.Calls.{Options}
use Rattle.frame_spec.specs.FrameVerdict.{Whole}
use Rattle.notes_spec.specs.FrameNotes.{FrameNotes, IsFrameText}
use Rattle.notes_spec.specs.NotesFaults.{NoteFault, IsFirstNoteFault}
use Rattle.notes_spec.specs.Programs.{vocabulary_of}
use Rattle.notes_spec.specs.Scopes.{in_dialect}
use Rattle.notes_spec.specs.Verified.{AreNotesRefusedIn, elf_fault_text, notes_limit}
use Rattle.note_check.specs.Checks.{AreWarnings}
use Rattle.note_check.specs.Options.{AreWrongOptions}
use Rattle.note_check.specs.declared.warning.Warning.{Warning}

-- The notes of a text, whose options may not fit the file, or a line that is refused, of which nothing is told.
pub data IsRead (o : Options) (file text : List ℕ) (found : List Warning) : Type 0 where
  said : (n : FrameNotes) → IsFrameText (in_dialect (dialect_for text) (vocabulary_of o file)) text n →
      AreWrongOptions o.compressed file n.notes.entry found → IsRead o file text found
  faulty : (line : ℕ) (f : NoteFault) → IsFirstNoteFault (in_dialect (dialect_for text) (vocabulary_of o file)) text line f → found ≡ [] →
      IsRead o file text found

-- What is told: the warnings about what the file and the notes are; or that the notes are refused, with the warnings about the options where the notes were read
-- and the file has not their function; or that the file is refused.
pub data IsChecked (o : Options) (file text : List ℕ) (status : ℕ) (refusal : List ℕ) (found : List Warning) : Type 0 where
  whole : (w : Whole) → IsImage file → length text ≤ notes_limit → IsWhole o file text w → AreWarnings o.compressed file w found → status ≡ 0 → refusal ≡ [] →
      IsChecked o file text status refusal found
  unfound : IsImage file → AreNotesRefusedIn (dialect_for text) o file text refusal → IsRead o file text found → status ≡ 5 →
      IsChecked o file text status refusal found
  too_large : IsImage file → notes_limit < length text → status ≡ 5 → refusal ≡ codes "notes: TooLarge\n" → found ≡ [] →
      IsChecked o file text status refusal found
  no_image : (f : FileFault) → IsFirstFileFault file f → status ≡ 4 → refusal ≡ elf_fault_text f → found ≡ [] → IsChecked o file text status refusal found
