-- Bytes of words.
use Rattle.std.specs.Prelude.{ℕ, Bool, ◌||◌}
use Rattle.word_spec.specs.Tokens.{is_digit, is_letter}

-- a letter or a digit
abbrev pub is_letter_or_digit : ℕ → Bool
is_letter_or_digit b = is_letter b || is_digit b
