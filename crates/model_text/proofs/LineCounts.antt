-- The lines of a text are counted byte by byte.
use Rattle.std.proofs.Common.{ℕ, ◌-◌, Bool, true, false, List, length}
use Rattle.word_spec.specs.Texts.{split_lines}

-- the lines that begin in a text, where the line before it has ended or not
abbrev pub more_lines : (ended : Bool) → List ℕ → ℕ
more_lines true text = length (split_lines text)
more_lines false text = length (split_lines text) - 1
