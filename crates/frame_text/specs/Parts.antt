-- The definitions' values that the parts of a text stand for.
use Rattle.std.specs.Prelude.{ℕ, List, Option, Some, None, length}
use Rattle.std.specs.Borrow.{Bor}
use Rattle.word_spec.specs.Texts.{split_lines}
use Rattle.frame_texts_spec.specs.FrameTexts as texts
use Rattle.frame_text.specs.declared.parts.Mark.{Mark}
use Rattle.frame_text.specs.declared.parts.Mark.TheVariants.{Head, Stack}

-- a line of a head part's beginning
abbrev pub mark_said : Mark → texts.Mark
mark_said (Head a) = texts.HeadMark a
mark_said (Stack a) = texts.StackMark a

-- the line that ends a part, and what stands behind it
abbrev pub behind_said : Mark × Bor (List ℕ) → texts.Mark × List (List ℕ)
behind_said b = (mark_said b.0, split_lines b.1.now)

-- how many bytes stand behind the line that ends a part
abbrev pub length_behind : Option (Mark × Bor (List ℕ)) → ℕ
length_behind None = 0
length_behind (Some b) = length b.1.now
