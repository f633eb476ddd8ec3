-- What two exit states have of the registers, flags and bytes that links compare, by their lines.
use Rattle.std.specs.Prelude.{ℕ, ◌==◌, if◌then◌else◌, Bool, List, [], ◌∷◌, ◌++◌, Option, Some, None, map}
use Rattle.word_spec.specs.State.{State}
use Rattle.pair_spec.specs.Links.{Link, line_of}
use Rattle.pair_spec.specs.PairTerms.{exit_words}

-- the words of a side's exit state, each after the number of its line
abbrev pub lined_words : (second : Bool) → State → Link → List (ℕ × ℕ)
lined_words side s l = map (λ f. (line_of l, f s)) (exit_words side l)

abbrev pub all_lined_words : (second : Bool) → State → List Link → List (ℕ × ℕ)
all_lined_words side s [] = []
all_lined_words side s (l ∷ rest) = lined_words side s l ++ all_lined_words side s rest

-- the line of the first words that are not the same
abbrev pub first_apart : List (ℕ × ℕ) → List (ℕ × ℕ) → Option ℕ
first_apart [] ys = None
first_apart (x ∷ xs) [] = None
first_apart (x ∷ xs) (y ∷ ys) = if x.1 == y.1 then first_apart xs ys else Some x.0
