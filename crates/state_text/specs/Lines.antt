-- The definition's lines that lines of a state text stand for.
use Rattle.std.specs.Prelude.{min}
use Rattle.machine_spec.specs.StateText as texts
use Rattle.state_text.specs.Starts.{named_of}
use Rattle.state_text.specs.declared.state_line.StateLine.{StateLine}
use Rattle.state_text.specs.declared.state_line.StateLine.TheVariants.{Named, Machine, Register, Byte, Choice, End}

-- what a line says
abbrev pub line_said : StateLine → texts.StateLine
line_said (Named named) = texts.NamedLine (named_of named)
line_said Machine = texts.MachineLine
line_said (Register place value) = texts.RegisterLine place value
line_said (Byte at value) = texts.ByteLine at value
line_said (Choice step choice) = texts.ChoiceLine step choice
line_said End = texts.EndLine

-- a line whose choice above 3 is taken for 4
abbrev pub capped_line : texts.StateLine → texts.StateLine
capped_line (texts.NamedLine n) = texts.NamedLine n
capped_line texts.MachineLine = texts.MachineLine
capped_line (texts.RegisterLine i v) = texts.RegisterLine i v
capped_line (texts.ByteLine a v) = texts.ByteLine a v
capped_line (texts.ChoiceLine s c) = texts.ChoiceLine s (min c 4)
capped_line texts.EndLine = texts.EndLine
