-- The line of the notes that a report names.
use Rattle.std.specs.Prelude.{ℕ, ◌-◌, List, [], ◌++◌, codes, slice_index_or}
use Rattle.word_spec.specs.Texts.{line, number_text, split_lines}

-- the line of a number, from 1 on, as it is written, behind the number
abbrev pub note_line : (notes : List ℕ) → (number : ℕ) → List ℕ
note_line notes number = line (codes "line " ++ number_text number ++ codes ": " ++ slice_index_or (split_lines notes) (number - 1) [])
