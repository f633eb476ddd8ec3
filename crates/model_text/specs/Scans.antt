-- Where the text of an answer is cut.
use Rattle.std.specs.Prelude.{ℕ, ◌≡◌, ◌≤◌, ◌<◌, ◌+◌, ◌==◌, ◌||◌, Bool, true, false, List, ◌∷◌, length}
use Rattle.model_spec.specs.ModelText.{Mode, Between, InComment, InText, AfterMark, tokens_from}
use Rattle.model_text.specs.declared.token.Placed.{Placed}
use Rattle.model_text.specs.declared.scanner.Tail.{Tail}
use Rattle.model_text.specs.Tokens.{placed_of}

-- a quotation mark, an apostrophe, a bracket of any kind, a comma, a semicolon, a backslash, a grave accent or a bar
abbrev pub is_apart : ℕ → Bool
is_apart b =
    (b == 34) || (b == 39) || (b == 40) || (b == 41) || (b == 44) || (b == 59) || (b == 91) || (b == 92) || (b == 93) || (b == 96) || (b == 123) || (b == 124)
    || (b == 125)

-- between tokens, or in a comment
abbrev pub blank_mode : (comment : Bool) → Mode
blank_mode true = InComment
blank_mode false = Between

-- in a string, or behind a quotation mark in it
abbrev pub string_mode : (from : ℕ) → (marked : Bool) → Mode
string_mode from true = AfterMark from
string_mode from false = InText from

-- the token that stands first in a text, and what stands behind it
pub record IsFirst (line : ℕ) (text : List ℕ) (p : Placed) (tail : Tail) : Type 0 where
  pub tokens : tokens_from line Between text ≡ placed_of p ∷ tokens_from tail.line Between tail.text.now
  pub room : tail.line + length tail.text.now ≤ line + length text
  pub shorter : length tail.text.now < length text
