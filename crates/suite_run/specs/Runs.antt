-- Runs of checks.
use Rattle.std.specs.Prelude.{ℕ, ◌≡◌, ◌<◌, List, [], ◌∷◌, ◌++◌, Bool, length, map, take}
use Rattle.call_spec.specs.Outside.{Held, Appends, Rose}
use Rattle.call_spec.specs.Calls.{Surroundings}
use Rattle.suite_file.specs.Suites.{Check}
use Rattle.suite_report.specs.Reports.{Told, run_status}
use Rattle.suite_report.specs.RunTexts.{lines_by, text_by}
use Rattle.suite_run.specs.Answers.{Came, IsAnswer}
use Rattle.suite_run.specs.Steps.{told}
use Rattle.note_check.specs.declared.warning.Warning.{Warning}

-- a check with what it came to
pub record Answered : Type 0 where
  pub check : Check
  pub came : Came

abbrev pub checks_of : List Answered → List Check
checks_of xs = map (λ a. a.check) xs

abbrev pub told_of : List Answered → List Told
told_of xs = map (λ a. told a.check a.came) xs

-- each came to what it may come to
abbrev pub AreAnswers : (Answers : List (List ℕ) → (file notes : List ℕ) → (status : ℕ) → (report : List ℕ) → List Warning → Type 0) → (held : List ℕ → Held) →
    (before after : List ℕ → ℕ) → List Answered → Type 0
AreAnswers Answers held before after [] = Unit {0}
AreAnswers Answers held before after (a ∷ xs) = IsAnswer Answers held before after a.check a.came × AreAnswers Answers held before after xs

-- A run of checks. All were answered in their order, and the text was written whole; or a write failed behind a proper front of the text of those that were
-- answered, only where the sink's count rose; or memory ran out behind the lines of those.
pub data IsRun (Answers : List (List ℕ) → (file notes : List ℕ) → (status : ℕ) → (report : List ℕ) → List Warning → Type 0) (s : Surroundings) (strict json : Bool)
    (checks : List Check) (status : ℕ) : Type 0 where
  whole : (xs : List Answered) → checks_of xs ≡ checks → AreAnswers Answers s.held s.shelf_before s.shelf_after xs →
      Appends s.text_before (text_by json (told_of xs)) s.text_after → status ≡ run_status strict (told_of xs) → IsRun Answers s strict json checks status
  cut : (xs : List Answered) (rest : List Check) (n : ℕ) → checks ≡ checks_of xs ++ rest → AreAnswers Answers s.held s.shelf_before s.shelf_after xs →
      n < length (text_by json (told_of xs)) → Appends s.text_before (take n (text_by json (told_of xs))) s.text_after → Rose s.sink_before s.sink_after →
      status ≡ 7 → IsRun Answers s strict json checks status
  no_memory : (xs : List Answered) (rest : List Check) → checks ≡ checks_of xs ++ rest → AreAnswers Answers s.held s.shelf_before s.shelf_after xs →
      Appends s.text_before (lines_by json (told_of xs)) s.text_after → status ≡ 8 → IsRun Answers s strict json checks status
