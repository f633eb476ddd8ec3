-- What a check came to and what was read of a file, in the code.
use Rattle.std.specs.Prelude.{ℕ, ◌≤◌, List, length}
use Rattle.call_spec.specs.Outside.{Held, Agrees}
use Rattle.suite_run.specs.Answers as spec
use Rattle.suite_run.specs.Answers.{came, IsUnread}
use Rattle.suite_run.specs.declared.came.Came.{Came}
use Rattle.suite_run.specs.declared.reading.FileStep.{FileStep}
use Rattle.suite_run.specs.declared.reading.FileStep.TheVariants.{Go, Unread}
use Rattle.suite_run.specs.declared.reading.Limit.{Limit}

abbrev pub came_of : Came → spec.Came
came_of a = record { status = a.status; report = a.report.items; warnings = a.warnings.items }

-- the bytes of a file, or what a check comes to without them
abbrev pub IsFileStep : (held : List ℕ → Held) → (before after : List ℕ → ℕ) → (name : List ℕ) → Limit → FileStep → Type 0
IsFileStep held before after name limit (Go bytes) = Agrees (held name) bytes.items × (length bytes.items ≤ limit.bytes)
IsFileStep held before after name limit (Unread a) =
    IsUnread held before after name limit.bytes (came limit.status limit.report.now) (came_of a)
