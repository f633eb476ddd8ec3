-- The words of the command line by which a check is asked.
use Rattle.std.specs.Prelude.{List, [], ◌∷◌, ◌++◌, ℕ, Bool, codes, nat_eq, if◌then◌else◌}
use Rattle.std.specs.List.{list_any, starts_with}

-- an option is named among words
abbrev pub names : (name : List ℕ) → List (List ℕ) → Bool
names name options = list_any (λ word. starts_with nat_eq word name) options

-- an option with its value, where the options do not name it
abbrev pub default_words : (name value : List ℕ) → (options : List (List ℕ)) → List (List ℕ)
default_words name value options = if names name options then [] else name ∷ value ∷ []

-- Behind the program's name stands the command with its two files, the budgets of suites, and the options. The price of a program is a bound far above its work,
-- so that a suite allows almost any.
abbrev pub verify_words : (options : List (List ℕ)) → List (List ℕ)
verify_words options =
    codes "bilv" ∷ codes "verify" ∷ codes "elf" ∷ codes "notes" ∷ default_words (codes "--size") (codes "4000000000000000000") options
    ++ default_words (codes "--points") (codes "1048576") options ++ options
