-- The definitions' values that lines in blocks stand for.
use Rattle.std.specs.Prelude.{ℕ, Bool, true, false, List, [], ◌∷◌, ◌++◌, Option, Some, None, codes}
use Rattle.std.specs.Borrow.{Bor}
use Rattle.word_spec.specs.Texts.{split_lines}
use Rattle.frame_texts_spec.specs.CallTexts as texts
use Rattle.state_text.specs.Lines.{capped_line, line_said}
use Rattle.frame_text.specs.Parts.{mark_said}
use Rattle.call_text.specs.declared.lines.BlockLine.{BlockLine}
use Rattle.call_text.specs.declared.lines.BlockLine.TheVariants.{Begins, OfStart, OfHead}

-- the ending that words say after the word unproved
abbrev pub after_unproved : (ℕ → Option texts.Changes) → List (List ℕ) → Option texts.CallEnding
after_unproved changes [] = None
after_unproved changes (f ∷ ws) = texts.unproved_by (texts.frame_in changes f) (texts.after_frame ws)

-- what a line says
abbrev pub block_said : BlockLine → texts.BlockLine
block_said (Begins step at) = texts.BeginsBlock step at
block_said (OfStart line) = texts.OfStart (line_said line)
block_said (OfHead mark) = texts.OfHead (mark_said mark)

-- a line whose choice above 3 is taken for 4
abbrev pub capped_block : texts.BlockLine → texts.BlockLine
capped_block (texts.BeginsBlock step at) = texts.BeginsBlock step at
capped_block (texts.OfStart l) = texts.OfStart (capped_line l)
capped_block (texts.OfHead m) = texts.OfHead m

-- the lines from the first block on
abbrev pub blocks_said : Option (Bor (List ℕ)) → List (List ℕ)
blocks_said None = []
blocks_said (Some text) = split_lines text.now

-- lines, with the end where something else closes them
abbrev pub ended : (closed : Bool) → List (List ℕ) → List (List ℕ)
ended false ls = ls
ended true ls = ls ++ codes "end" ∷ []
