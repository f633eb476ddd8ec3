-- What a run prints, as text or as JSON.
use Rattle.std.specs.Prelude.{ℕ, Bool, true, false, List, [], ◌∷◌, ◌++◌, length}
use Rattle.suite_report.specs.Objects.{json_line}
use Rattle.suite_report.specs.Reports.{Told, expected_count, summary, told_line}

-- the line of a check
abbrev pub line_by : (json : Bool) → Told → List ℕ
line_by true t = json_line t
line_by false t = told_line t

abbrev pub lines_by : (json : Bool) → List Told → List ℕ
lines_by json [] = []
lines_by json (t ∷ ts) = line_by json t ++ lines_by json ts

-- what stands behind the last line: nothing behind JSON
abbrev pub summary_by : (json : Bool) → (all expected : ℕ) → List ℕ
summary_by true all expected = []
summary_by false all expected = summary all expected

-- what a run prints: the lines of the checks in their order, and the summary
abbrev pub text_by : (json : Bool) → List Told → List ℕ
text_by json ts = lines_by json ts ++ summary_by json (length ts) (expected_count ts)
