-- The notes of a template, and the warnings about one, as answers to a check.
use Rattle.std.specs.Prelude.{ℕ, ◌≡◌, List, [], ◌++◌, Option, map}
use Rattle.call_spec.specs.Calls.{Options}
use Rattle.bilv_spec.specs.ElfFaults.{FileFault, IsFirstFileFault, IsImage}
use Rattle.notes_spec.specs.Verified.{elf_fault_text}
use Rattle.word_spec.specs.Texts.{lines}
use Rattle.note_check.specs.Warnings.{warning_text}
use Rattle.note_check.specs.declared.warning.Warning.{Warning}
use Rattle.suite_notes.specs.Expansions.{IsNotes, IsRefusedTemplate}
use Rattle.suite_report.specs.Words.{verify_words}
use Rattle.suite_top.specs.Options.{IsCheckedBy, asked_options}

abbrev pub warning_lines : List Warning → List ℕ
warning_lines ws = lines (map warning_text ws)

-- the notes that a template stands for over an image; or that the template is refused; or that the file is
pub data IsExpandedAnswer (file template : List ℕ) (status : ℕ) (report : List ℕ) (warnings : List Warning) : Type 0 where
  expanded : IsImage file → IsNotes file template report → status ≡ 0 → warnings ≡ [] → IsExpandedAnswer file template status report warnings
  refused : IsRefusedTemplate file template report → status ≡ 5 → warnings ≡ [] → IsExpandedAnswer file template status report warnings
  no_image : (f : FileFault) → IsFirstFileFault file f → report ≡ elf_fault_text f → status ≡ 4 → warnings ≡ [] →
      IsExpandedAnswer file template status report warnings

-- the lines of the warnings about notes, and behind them why the file or the notes are refused
abbrev pub AreListed : Option Options → (file notes : List ℕ) → (status : ℕ) → (report : List ℕ) → List Warning → Type 0
AreListed o file notes status report warnings =
    (refusal : List ℕ) × IsCheckedBy o file notes status refusal warnings × (report ≡ warning_lines warnings ++ refusal)

-- so of the notes that a template stands for; or that the template is refused
pub data IsCheckedAnswer (options : List (List ℕ)) (file template : List ℕ) (status : ℕ) (report : List ℕ) (warnings : List Warning) : Type 0 where
  checked : (notes : List ℕ) → IsNotes file template notes → AreListed (asked_options (verify_words options)) file notes status report warnings →
      IsCheckedAnswer options file template status report warnings
  refused_template : IsRefusedTemplate file template report → status ≡ 5 → warnings ≡ [] → IsCheckedAnswer options file template status report warnings
