-- Blocks as texts of states.
use Rattle.std.specs.Prelude.{ℕ, ◌+◌, List, [], ◌∷◌, codes, if◌then◌else◌}
use Rattle.std.specs.Str.{bytes_eq}

-- the line of some ending
abbrev pub first_text : List ℕ
first_text = codes "fails fetch at 0x00000000 step 0"

-- how many lines there are up to the first that is `end`, that one included; all of them where none is
abbrev pub lines_to_end : List (List ℕ) → ℕ
lines_to_end [] = 0
lines_to_end (l ∷ rest) = if bytes_eq l (codes "end") then 1 else 1 + lines_to_end rest
