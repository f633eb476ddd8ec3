-- How the program ends.
use Rattle.std.specs.Prelude.{ℕ, ◌≡◌, List, Option, Some, None, true, false}
use Rattle.call_spec.specs.Calls.{Surroundings}
use Rattle.note_check.specs.declared.warning.Warning.{Warning}
use Rattle.suite_run.specs.Ends.{IsSuiteEnd}
use Rattle.suite_run.specs.Prints.{IsPrintedAnswer}
use Rattle.suite_line.specs.Requests.{Files, Request, RunSuite, PrintNotes, PrintWarnings}
use Rattle.suite_top.specs.FileChecks.{asked_check, is_lawful, option_words}
use Rattle.suite_top.specs.Singles.{IsCheckedAnswer, IsExpandedAnswer}
use Rattle.suite_top.specs.Verified.{IsAsked}

-- The options are not those of `bilv`, or the answer about the files is printed; or memory ran out. But for an answer nothing is written.
pub data IsFilesEnd (Answers : List (List ℕ) → (file notes : List ℕ) → (status : ℕ) → (report : List ℕ) → List Warning → Type 0) (s : Surroundings)
    (f : Files) (status : ℕ) : Type 0 where
  not_lawful : is_lawful (option_words f) ≡ false → s.text_after ≡ s.text_before → status ≡ 2 → IsFilesEnd Answers s f status
  asked_about : is_lawful (option_words f) ≡ true → IsPrintedAnswer Answers s (asked_check f) status → IsFilesEnd Answers s f status
  not_begun : s.text_after ≡ s.text_before → status ≡ 8 → IsFilesEnd Answers s f status

-- A line that is not lawful ends with 2, and one that is as its suite does, or as its files do. But for these nothing is written.
abbrev pub IsDone : Surroundings → Option Request → ℕ → Type 0
IsDone s None status = (status ≡ 2) × (s.text_after ≡ s.text_before)
IsDone s (Some (RunSuite r)) status = IsSuiteEnd IsAsked s r status
IsDone s (Some (PrintNotes f)) status = IsFilesEnd (λ options. IsExpandedAnswer) s f status
IsDone s (Some (PrintWarnings f)) status = IsFilesEnd IsCheckedAnswer s f status

-- so, or memory ran out before
pub data IsEnd (s : Surroundings) (r : Option Request) (status : ℕ) : Type 0 where
  asked : IsDone s r status → IsEnd s r status
  no_memory : s.text_after ≡ s.text_before → status ≡ 8 → IsEnd s r status
