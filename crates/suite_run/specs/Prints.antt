-- Texts that are printed, and single answers.
use Rattle.std.specs.Prelude.{ℕ, ◌≡◌, ◌<◌, List, Option, length, take}
use Rattle.call_spec.specs.Outside.{Appends, Rose}
use Rattle.call_spec.specs.Calls.{Surroundings}
use Rattle.suite_file.specs.Suites.{Check}
use Rattle.suite_run.specs.Answers.{Came, IsAnswer}
use Rattle.note_check.specs.declared.warning.Warning.{Warning}

-- A text was written whole, which has a status; or a write failed behind a proper front of it; or memory ran out, and nothing was written.
pub data IsPrinted (text : List ℕ) (done : ℕ) (before after : Option (List ℕ)) (sink_before sink_after : ℕ) (status : ℕ) : Type 0 where
  printed : Appends before text after → status ≡ done → IsPrinted text done before after sink_before sink_after status
  cut : (n : ℕ) → n < length text → Appends before (take n text) after → Rose sink_before sink_after → status ≡ 7 →
      IsPrinted text done before after sink_before sink_after status
  no_memory : after ≡ before → status ≡ 8 → IsPrinted text done before after sink_before sink_after status

-- A check came to an answer, whose report is printed, with its status; or memory ran out before, and nothing was written.
pub data IsPrintedAnswer (Answers : List (List ℕ) → (file notes : List ℕ) → (status : ℕ) → (report : List ℕ) → List Warning → Type 0) (s : Surroundings)
    (c : Check) (status : ℕ) : Type 0 where
  answered : (a : Came) → IsAnswer Answers s.held s.shelf_before s.shelf_after c a →
      IsPrinted a.report a.status s.text_before s.text_after s.sink_before s.sink_after status → IsPrintedAnswer Answers s c status
  not_answered : s.text_after ≡ s.text_before → status ≡ 8 → IsPrintedAnswer Answers s c status
