-- What is answered where the inputs of a command are refused.
use Rattle.std.proofs.Common.{◌≡◌, ℕ, ◌≤◌, List, length, refl, sym, subst, arith}
use Rattle.std.specs.Prelude.{codes}
use Rattle.call_spec.specs.Outside.{Held, Agrees, Rose}
use Rattle.bilv_spec.specs.Run.{Program}
use Rattle.bilv_spec.specs.Notes.{Notes, Function, At, Named}
use Rattle.notes_spec.specs.NotesGrammar.{IsNotesText}
use Rattle.notes_spec.specs.NotesFaults.{NoteFault, IsFirstNoteFault}
use Rattle.call_spec.specs.Calls.{Options, Answer, plain_answer, Surroundings, AfterRead, read_failed, was_read}
use Rattle.bilv_spec.specs.Files.{machine_of, program_of, IsFunctionAt}
use Rattle.notes_spec.specs.Programs.{vocabulary_of}
use Rattle.notes_spec.specs.Scopes.{Dialect, Plain, Paired, in_dialect}
use Rattle.word_spec.specs.Texts.{line}
use Rattle.answer_spec.specs.Outcomes.{AfterElf}
use Rattle.notes_spec.specs.Verified.{AfterImage, elf_refused, elf_accepted, AfterNotes, notes_refused, program_found, IsElfRefused, elf_large, elf_fault, AreNotesRefusedIn, notes_large, notes_fault, no_function, ambiguous, note_fault_text, elf_fault_text, IsFound, IsAccepted, elf_limit, notes_limit}
use Rattle.bilv_spec.specs.ElfFaults as elf
use Rattle.elf32_reader.specs.declared.fault.ElfFault.{ElfFault}
use Rattle.notes_value.specs.NoteViews.{notes_of}
use Rattle.elf32_reader.specs.declared.fault.ElfFault.TheVariants.{Short, Magic, Class, Data, Version, «Type», Machine, HeaderTable, SegmentRange, FileSize, Overlap, SymbolTable, Memory}
use Rattle.elf32_reader.specs.Refusals.{IsRefused}
use Rattle.elf32_reader.specs.declared.symbols.SymFault.{SymFault}
use Rattle.elf32_reader.specs.declared.symbols.SymFault.TheVariants.{NoFunction, Ambiguous}
use Rattle.bilv_top.specs.Answers.{IsOfFile, IfStep, elf_text_of}
use Rattle.bilv_top.specs.declared.answer.Step.{Step}
use Rattle.bilv_top.specs.declared.answer.Step.TheVariants.{Answered, Go}
use Rattle.bilv_top.specs.declared.inputs.Found.{Found}
use Rattle.notes_spec.proofs.Dialects.{paired_is_plain}
use Rattle.bilv_top.specs.Due.{IsUnread, failed, longer, AreNotesAnswered, AreNotesAnsweredIn, IsNotesAnswer, IsNotesAnswerIn, unread, refused, IsFoundIn, IsFoundBy}
use Rattle.bilv_top.specs.Names.{IsMissedFunction, missed_text}

-- notes that were found where two functions are compared are notes of one function
pub found_alone : (o : Options) (file : List ℕ) (f : Found) → IsFoundIn Paired o file f → IsFoundBy o file f
found_alone o file f is = record {
  says = (paired_is_plain (vocabulary_of o file) f.text.items (notes_of f.notes)).0 is.says;
  at = is.at;
  over_file = is.over_file;
}

-- the first fault of a file is its refusal
refused_as : (file : List ℕ) (f : elf.FileFault) → length file ≤ elf_limit → elf.IsFirstFileFault file f → IsElfRefused file (elf_fault_text f)
refused_as file f le is = elf_fault f le is

pub elf_is_refused : (file : List ℕ) (fault : ElfFault) → IsOfFile fault → length file ≤ elf_limit → IsRefused file fault →
    IsElfRefused file (elf_text_of fault)
elf_is_refused file Short some le is = refused_as file elf.ShortFile le is
elf_is_refused file Magic some le is = refused_as file elf.BadMagic le is
elf_is_refused file Class some le is = refused_as file elf.BadClass le is
elf_is_refused file Data some le is = refused_as file elf.BadData le is
elf_is_refused file Version some le is = refused_as file elf.BadVersion le is
elf_is_refused file «Type» some le is = refused_as file elf.BadType le is
elf_is_refused file Machine some le is = refused_as file elf.BadMachine le is
elf_is_refused file HeaderTable some le is = refused_as file elf.BadHeaderTable le is
elf_is_refused file SegmentRange some le is = refused_as file elf.BadSegmentRange le is
elf_is_refused file FileSize some le is = refused_as file elf.BadFileSize le is
elf_is_refused file Overlap some le is = refused_as file elf.SegmentsOverlap le is
elf_is_refused file SymbolTable some le is = refused_as file elf.BadSymbolTable le is
elf_is_refused file Memory some le is = absurd some

-- a line of the notes is refused
pub line_answered : (d : Dialect) (o : Options) (file text : List ℕ) (n : ℕ) (f : NoteFault) (a : Answer) → length text ≤ notes_limit →
    IsFirstNoteFault (in_dialect d (vocabulary_of o file)) text n f → a ≡ plain_answer 5 (note_fault_text n f) → AreNotesAnsweredIn d o file text a
line_answered d o file text n f a le is a_is = (note_fault_text n f, notes_fault n f le is, a_is)

missed_by : (d : Dialect) (o : Options) (file text : List ℕ) (notes : Notes) (f : Function) (fault : SymFault) → length text ≤ notes_limit →
    IsNotesText (in_dialect d (vocabulary_of o file)) text notes → notes.entry ≡ f →
    IsMissedFunction (machine_of o file).narrow file f fault → AreNotesRefusedIn d o file text (missed_text fault)
missed_by d o file text notes (At a) fault le is e missed = absurd missed
missed_by d o file text notes (Named name) NoFunction le is e missed = no_function notes name le is e missed
missed_by d o file text notes (Named name) (Ambiguous a c) le is e missed = ambiguous notes name a c le is e missed

-- their function is not found
pub name_answered : (d : Dialect) (o : Options) (file text : List ℕ) (notes : Notes) (fault : SymFault) (a : Answer) → length text ≤ notes_limit →
    IsNotesText (in_dialect d (vocabulary_of o file)) text notes → IsMissedFunction (machine_of o file).narrow file notes.entry fault →
    a ≡ plain_answer 5 (missed_text fault) → AreNotesAnsweredIn d o file text a
name_answered d o file text notes fault a le is missed a_is = (missed_text fault, missed_by d o file text notes notes.entry fault le is refl missed, a_is)

module _ (s : Surroundings) (elf : List ℕ) (Next : List ℕ → Answer → Type 0) (a : Answer) where
  -- the ELF file was not read
  pub elf_unread : IsUnread (s.held elf) (s.shelf_before elf) (s.shelf_after elf) elf_limit (plain_answer 4 (line (codes "elf: TooLarge"))) a →
      AfterElf s elf Next a
  elf_unread (failed rose is) = read_failed rose is
  elf_unread (longer long is) = was_read long.0 long.1 (elf_refused (line (codes "elf: TooLarge")) (elf_large long.2) is)

  -- it is refused
  pub elf_refuses : (file : List ℕ) (fault : ElfFault) → Agrees (s.held elf) file → length file ≤ elf_limit → IsOfFile fault → IsRefused file fault →
      a ≡ plain_answer 4 (elf_text_of fault) → AfterElf s elf Next a
  elf_refuses file fault agrees le some first a_is = was_read file agrees (elf_refused (elf_text_of fault) (elf_is_refused file fault some le first) a_is)

  -- it is accepted
  pub elf_accepts : (file : List ℕ) → Agrees (s.held elf) file → IsAccepted file → Next file a → AfterElf s elf Next a
  elf_accepts file agrees accepted next = was_read file agrees (elf_accepted accepted next)

module _ (s : Surroundings) (o : Options) (notes file : List ℕ) (Next : List ℕ → Program → Answer → Type 0) (a : Answer) where
  -- no program is found
  pub notes_answered : IsNotesAnswer (s.held notes) (s.shelf_before notes) (s.shelf_after notes) o file a →
      AfterRead s notes (λ text. AfterNotes o file text (Next text)) a
  notes_answered (unread (failed rose is)) = read_failed rose is
  notes_answered (unread (longer long is)) = was_read long.0 long.1 (notes_refused (line (codes "notes: TooLarge")) (notes_large long.2) is)
  notes_answered (refused text agrees answered) = was_read text agrees (notes_refused answered.0 answered.1 answered.2)

  -- a program is found
  pub notes_found : (text : List ℕ) (found : Notes) (entry : ℕ) → Agrees (s.held notes) text → length text ≤ notes_limit → IsAccepted file →
      IsNotesText (vocabulary_of o file) text found → IsFunctionAt (machine_of o file).narrow file found.entry entry →
      (IsFound o file text (program_of (machine_of o file) file found entry) → Next text (program_of (machine_of o file) file found entry) a) →
      AfterRead s notes (λ text. AfterNotes o file text (Next text)) a
  notes_found text found entry agrees le accepted says at next =
      let is : IsFound o file text (program_of (machine_of o file) file found entry) = (accepted, le, (found, entry, says, at, refl)) in
      was_read text agrees (program_found (program_of (machine_of o file) file found entry) is (next is))

-- what rises behind a count that never falls has risen from before
pub rose_since : (a b c : ℕ) → a ≤ b → Rose b c → Rose a c
rose_since a b c h r = omega arith

pub unread_since : (held : Held) (a b c limit : ℕ) (large answer : Answer) → a ≤ b → IsUnread held b c limit large answer → IsUnread held a c limit large answer
unread_since held a b c limit large answer le (failed rose is) = failed (rose_since a b c le rose) is
unread_since held a b c limit large answer le (longer long is) = longer long is

pub answer_since : (d : List ℕ → Dialect) (held : Held) (a b c : ℕ) (o : Options) (file : List ℕ) (answer : Answer) → a ≤ b →
    IsNotesAnswerIn d held b c o file answer → IsNotesAnswerIn d held a c o file answer
answer_since d held a b c o file answer le (unread is) = unread (unread_since held a b c notes_limit _ answer le is)
answer_since d held a b c o file answer le (refused text agrees answered) = refused text agrees answered

-- what is read of a file whose count never fell before
pub read_since : (s t : Surroundings) (name : List ℕ) (Next : List ℕ → Answer → Type 0) (a : Answer) → s.held name ≡ t.held name →
    t.shelf_before name ≤ s.shelf_before name → s.shelf_after name ≡ t.shelf_after name → AfterRead s name Next a → AfterRead t name Next a
read_since s t name Next a held le same (read_failed rose is) =
    read_failed (subst (λ n. Rose (t.shelf_before name) n) same (rose_since (t.shelf_before name) (s.shelf_before name) (s.shelf_after name) le rose)) is
read_since s t name Next a held le same (was_read bytes agrees next) = was_read bytes (subst (λ h. Agrees h bytes) held agrees) next

-- a step that found a program in the text of notes, or answered
pub step_found : (held : Held) (before after : ℕ) (o : Options) (file text : List ℕ) (step : Step Found) → Agrees held text → length text ≤ notes_limit →
    IfStep step (AreNotesAnswered o file text) (λ f. (f.text.items ≡ text) × IsFoundBy o file f) →
    IfStep step (IsNotesAnswer held before after o file) (λ f. Agrees held f.text.items × (length f.text.items ≤ notes_limit) × IsFoundBy o file f)
step_found held before after o file text (Answered a) agrees le is = refused text agrees is
step_found held before after o file text (Go f) agrees le is =
    (subst (Agrees held) (sym is.0) agrees, subst (λ t. length t ≤ notes_limit) (sym is.0) le, is.1)

module _ (s : Surroundings) (o : Options) (elf notes file : List ℕ) (Next : List ℕ → List ℕ → Program → Answer → Type 0) (a : Answer) (held : Held) (before : ℕ)
    (agrees : Agrees (s.held elf) file) (same : held ≡ s.held notes) (le : s.shelf_before notes ≤ before) where
  -- no program is found over an ELF file that was read, by what is told of the notes behind that
  pub both_answered : AfterImage file (IsNotesAnswer held before (s.shelf_after notes) o file) a
      → AfterElf s elf (λ file. AfterRead s notes (λ text. AfterNotes o file text (Next file text))) a
  both_answered (elf_refused written is a_is) = was_read file agrees (elf_refused written is a_is)
  both_answered (elf_accepted accepted is) =
      elf_accepts s elf (λ file. AfterRead s notes (λ text. AfterNotes o file text (Next file text))) a file agrees accepted
      (notes_answered s o notes file (Next file) a
      (answer_since (λ text. Plain) (s.held notes) (s.shelf_before notes) before (s.shelf_after notes) o file a le (subst
      (λ h. IsNotesAnswer h before (s.shelf_after notes) o file a) same is)))

  -- a program is found
  pub both_found : (f : Found) → IsAccepted file → Agrees held f.text.items → length f.text.items ≤ notes_limit → IsFoundBy o file f →
      (IsFound o file f.text.items (program_of (machine_of o file) file (notes_of f.notes) f.entry) →
      Next file f.text.items (program_of (machine_of o file) file (notes_of f.notes) f.entry) a)
      → AfterElf s elf (λ file. AfterRead s notes (λ text. AfterNotes o file text (Next file text))) a
  both_found f accepted told short by next =
      elf_accepts s elf (λ file. AfterRead s notes (λ text. AfterNotes o file text (Next file text))) a file agrees accepted
      (notes_found s o notes file (Next file) a f.text.items (notes_of f.notes) f.entry (subst
      (λ h. Agrees h f.text.items) same told) short accepted by.says by.at next)
