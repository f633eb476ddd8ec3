-- The version that a line tells.
use Rattle.std.specs.Prelude.{◌≡◌, Bool, List, [], Option, Some, None}
use Rattle.word_spec.specs.Tokens.{Token}
use Rattle.notes_spec.specs.NotesGrammar.{version_line}

-- what the first line with tokens tells of the version, whatever is behind it; or the line has none
abbrev pub IsVersionOf : List Token → Option Bool → Type 0
IsVersionOf ts None = ts ≡ []
IsVersionOf ts (Some b) = (later : Bool) → version_line ts later ≡ b
