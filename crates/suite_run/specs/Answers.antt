-- What a check may come to.
use Rattle.std.specs.Prelude.{ℕ, ◌≡◌, ◌≤◌, List, [], ◌++◌, codes, length}
use Rattle.word_spec.specs.Texts.{line}
use Rattle.call_spec.specs.Outside.{Held, Agrees, IsLonger, Rose}
use Rattle.suite_file.specs.Suites.{Check}
use Rattle.note_check.specs.declared.warning.Warning.{Warning}

-- a status, a report and warnings
pub record Came : Type 0 where
  pub status : ℕ
  pub report : List ℕ
  pub warnings : List Warning

-- what nothing is warned of
abbrev pub came : ℕ → List ℕ → Came
came status report = record { status = status; report = report; warnings = [] }

-- what a check comes to whose file cannot be read
abbrev pub unread_came : (name : List ℕ) → Came
unread_came name = came 6 (line (codes "cannot read " ++ name))

-- the most bytes of an ELF file and of notes
abbrev pub elf_limit : ℕ
elf_limit = 16777216

abbrev pub notes_limit : ℕ
notes_limit = 262144

-- A file is not read: a read failed, only where the count of its name rose, or the file is longer than a limit.
pub data IsUnread (held : List ℕ → Held) (before after : List ℕ → ℕ) (name : List ℕ) (limit : ℕ) (large : Came) (a : Came) : Type 0 where
  read_failed : Rose (before name) (after name) → a ≡ unread_came name → IsUnread held before after name limit large a
  too_large : IsLonger (held name) limit → a ≡ large → IsUnread held before after name limit large a

-- what a check comes to behind the reading of a file
pub data AfterFile (held : List ℕ → Held) (before after : List ℕ → ℕ) (name : List ℕ) (limit : ℕ) (large : Came) (Next : List ℕ → Came → Type 0) (a : Came)
    : Type 0 where
  unread : IsUnread held before after name limit large a → AfterFile held before after name limit large Next a
  was_read : (bytes : List ℕ) → Agrees (held name) bytes → length bytes ≤ limit → Next bytes a → AfterFile held before after name limit large Next a

-- What a check may come to, by what a verifier may answer to options, an ELF file and notes.
abbrev pub IsAnswer : (Answers : List (List ℕ) → (file notes : List ℕ) → (status : ℕ) → (report : List ℕ) → List Warning → Type 0) → (held : List ℕ → Held) →
    (before after : List ℕ → ℕ) → Check → Came → Type 0
IsAnswer Answers held before after c a =
    AfterFile held before after c.elf elf_limit (came 4 (line (codes "elf: TooLarge")))
    (λ file. AfterFile held before after c.notes notes_limit (came 5 (line (codes "notes: TooLarge")))
    (λ notes b. Answers c.options file notes b.status b.report b.warnings)) a
