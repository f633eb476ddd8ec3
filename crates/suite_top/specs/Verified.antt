-- What `bilv verify` may answer over files in memory.
use Rattle.std.specs.Prelude.{ℕ, ◌≡◌, List, [], Some, codes, if◌then◌else◌}
use Rattle.std.specs.Str.{bytes_eq}
use Rattle.call_spec.specs.Outside.{Held, Bytes}
use Rattle.call_spec.specs.Calls.{Answer, Surroundings}
use Rattle.answer_spec.specs.Outcomes.{IsDueAnswer}
use Rattle.command_line.specs.Lines.{lawful_command}
use Rattle.io_edges.specs.Met.{met, seen}
use Rattle.suite_notes.specs.Expansions.{IsNotes, IsRefusedTemplate}
use Rattle.note_check.specs.declared.warning.Warning.{Warning}
use Rattle.suite_report.specs.Words.{verify_words}
use Rattle.suite_top.specs.Options.{IsCheckedBy, asked_options}

-- what a shelf tells that has an ELF file and notes, and an empty file under each other name
abbrev pub two_files : (file notes : List ℕ) → List ℕ → Held
two_files file notes name = if bytes_eq (codes "elf") name then Bytes file else if bytes_eq (codes "notes") name then Bytes notes else Bytes []

-- a call over such a shelf, at which no read fails and no write, and which writes this
abbrev pub over : (held : List ℕ → Held) → (report : List ℕ) → Surroundings
over held report = met (seen held (λ n. 0) (λ n. 0)) (Some []) (Some report) 0 0

-- a status and a text are those of an answer that is due to words over a shelf
pub record IsTold (held : List ℕ → Held) (words : List (List ℕ)) (status : ℕ) (report : List ℕ) : Type 0 where
  pub answer : Answer
  pub due : IsDueAnswer (over held report) (lawful_command words) answer
  pub status_is : status ≡ answer.status
  pub report_is : report ≡ answer.text

-- so to the words that verify notes over an ELF file, by some options, with the warnings about them
pub record IsVerified (options : List (List ℕ)) (file notes : List ℕ) (status : ℕ) (report : List ℕ) (warnings : List Warning) : Type 0 where
  pub held : List ℕ → Held
  pub files : (n : List ℕ) → held n ≡ two_files file notes n
  pub told : IsTold held (verify_words options) status report
  pub check_status : ℕ
  pub refusal : List ℕ
  pub checked : IsCheckedBy (asked_options (verify_words options)) file notes check_status refusal warnings

-- so to the notes that a template stands for; or the template is refused
pub data IsAsked (options : List (List ℕ)) (file template : List ℕ) (status : ℕ) (report : List ℕ) (warnings : List Warning) : Type 0 where
  verified : (notes : List ℕ) → IsNotes file template notes → IsVerified options file notes status report warnings →
      IsAsked options file template status report warnings
  refused : IsRefusedTemplate file template report → status ≡ 5 → warnings ≡ [] → IsAsked options file template status report warnings
