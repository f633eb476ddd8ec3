-- The check that asks about an ELF file and a template.
use Rattle.std.specs.Prelude.{ℕ, List, [], ◌∷◌, Bool, codes, is_some, if◌then◌else◌}
use Rattle.suite_file.specs.Suites.{Check}
use Rattle.suite_line.specs.Requests.{Files}
use Rattle.suite_report.specs.Words.{verify_words}
use Rattle.suite_top.specs.Options.{asked_options}

-- the words of the options
abbrev pub option_words : Files → List (List ℕ)
option_words f = codes "--arm" ∷ f.arm ∷ (if f.rvc then codes "--rvc" ∷ [] else [])

abbrev pub asked_check : Files → Check
asked_check f = record { name = f.notes; notes = f.notes; elf = f.elf; options = option_words f; expect = [] }

-- `bilv verify` takes options
abbrev pub is_lawful : List (List ℕ) → Bool
is_lawful options = is_some (asked_options (verify_words options))
