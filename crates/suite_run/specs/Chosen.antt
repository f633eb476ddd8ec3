-- Which checks of a suite are run, and their names.
use Rattle.std.specs.Prelude.{ℕ, List, Bool, true, Option, Some, None, filter, map}
use Rattle.word_spec.specs.Texts.{lines}
use Rattle.suite_file.specs.Suites.{Check}
use Rattle.suite_report.specs.Reports.{has_part}

-- a check is run where its name has the text that is asked for, if there is one
abbrev pub is_chosen : Option (List ℕ) → Check → Bool
is_chosen None c = true
is_chosen (Some part) c = has_part part c.name

abbrev pub chosen : Option (List ℕ) → List Check → List Check
chosen only checks = filter (is_chosen only) checks

abbrev pub list_text : List Check → List ℕ
list_text checks = lines (map (λ c. c.name) checks)
