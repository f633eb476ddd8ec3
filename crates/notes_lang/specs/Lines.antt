-- The first line of a text.
use Rattle.std.specs.Prelude.{ℕ, ◌==◌, if◌then◌else◌, List, [], ◌∷◌}

-- a line without the CR before its LF
abbrev pub stripped : List ℕ → List ℕ
stripped [] = []
stripped (b ∷ []) = if b == 13 then [] else b ∷ []
stripped (b ∷ c ∷ rest) = b ∷ stripped (c ∷ rest)
