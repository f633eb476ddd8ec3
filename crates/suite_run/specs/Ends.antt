-- How a suite ends.
use Rattle.std.specs.Prelude.{ℕ, ◌≡◌, List, true, false}
use Rattle.call_spec.specs.Calls.{Surroundings}
use Rattle.suite_file.specs.Suites.{Check}
use Rattle.suite_run.specs.Chosen.{chosen, list_text}
use Rattle.suite_run.specs.Loads.{IsLoaded, Checks, Stopped}
use Rattle.suite_run.specs.Prints.{IsPrinted}
use Rattle.suite_run.specs.Requests.{Run}
use Rattle.suite_run.specs.Runs.{IsRun}
use Rattle.note_check.specs.declared.warning.Warning.{Warning}

-- The checks that are asked for were listed, or run; or memory ran out before, and nothing was written.
pub data IsChosenEnd (Answers : List (List ℕ) → (file notes : List ℕ) → (status : ℕ) → (report : List ℕ) → List Warning → Type 0) (s : Surroundings) (r : Run)
    (checks : List Check) (status : ℕ) : Type 0 where
  listed : r.list ≡ true → IsPrinted (list_text (chosen r.only checks)) 0 s.text_before s.text_after s.sink_before s.sink_after status →
      IsChosenEnd Answers s r checks status
  ran : r.list ≡ false → IsRun Answers s r.strict r.json (chosen r.only checks) status → IsChosenEnd Answers s r checks status
  not_begun : s.text_after ≡ s.text_before → status ≡ 8 → IsChosenEnd Answers s r checks status

-- The suite's file says its checks, and they end so; or it says none, and nothing is written; or memory ran out before.
pub data IsSuiteEnd (Answers : List (List ℕ) → (file notes : List ℕ) → (status : ℕ) → (report : List ℕ) → List Warning → Type 0) (s : Surroundings) (r : Run)
    (status : ℕ) : Type 0 where
  ended : (checks : List Check) → IsLoaded s.held s.shelf_before s.shelf_after r.suite (Checks checks) → IsChosenEnd Answers s r checks status →
      IsSuiteEnd Answers s r status
  stopped : IsLoaded s.held s.shelf_before s.shelf_after r.suite (Stopped status) → s.text_after ≡ s.text_before → IsSuiteEnd Answers s r status
  not_begun : s.text_after ≡ s.text_before → status ≡ 8 → IsSuiteEnd Answers s r status
