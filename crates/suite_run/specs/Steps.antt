-- One check of a run.
use Rattle.std.specs.Prelude.{ℕ, ◌≡◌, ◌<◌, List, Option, Bool, length, take}
use Rattle.call_spec.specs.Outside.{Held, Appends, Rose}
use Rattle.suite_file.specs.Suites.{Check}
use Rattle.suite_report.specs.Reports.{Told, asked_status, is_expected}
use Rattle.suite_report.specs.RunTexts.{line_by}
use Rattle.suite_run.specs.Answers.{Came, IsAnswer}
use Rattle.suite_run.specs.declared.stepping.Done.{Done}
use Rattle.note_check.specs.declared.warning.Warning.{Warning}

-- what is told of a check that came to this
abbrev pub told : Check → Came → Told
told c a = record { name = c.name; expect = c.expect; status = a.status; report = a.report; warnings = a.warnings }

-- the check was answered, and its line was written
pub record IsStep (Answers : List (List ℕ) → (file notes : List ℕ) → (status : ℕ) → (report : List ℕ) → List Warning → Type 0) (held : List ℕ → Held)
    (before after : List ℕ → ℕ) (strict json : Bool) (c : Check) (text_before text_after : Option (List ℕ)) (done : Done) : Type 0 where
  pub came : Came
  pub answer : IsAnswer Answers held before after c came
  pub written : Appends text_before (line_by json (told c came)) text_after
  pub status : done.status ≡ asked_status strict (told c came)
  pub expected : done.expected ≡ is_expected (told c came)

-- the check was answered, and a write failed behind a proper front of its line
pub record IsCut (Answers : List (List ℕ) → (file notes : List ℕ) → (status : ℕ) → (report : List ℕ) → List Warning → Type 0) (held : List ℕ → Held)
    (before after : List ℕ → ℕ) (json : Bool) (c : Check) (text_before text_after : Option (List ℕ)) (sink_before sink_after : ℕ) : Type 0 where
  pub came : Came
  pub answer : IsAnswer Answers held before after c came
  pub count : ℕ
  pub proper : count < length (line_by json (told c came))
  pub written : Appends text_before (take count (line_by json (told c came))) text_after
  pub risen : Rose sink_before sink_after
