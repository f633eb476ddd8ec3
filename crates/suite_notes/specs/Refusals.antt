-- What is told of a template that is refused.
use Rattle.std.specs.Prelude.{ℕ, List, [], ◌++◌, Option, Some, None, codes}
use Rattle.word_spec.specs.Texts.{line, number_text}
use Rattle.note_template.specs.Templates.{Refusal, UnknownSymbol, AmbiguousSymbol, WrongForm, LongLine}
use Rattle.note_template.specs.TemplateLines.{Refused}

abbrev pub nearest_text : Option (List ℕ) → List ℕ
nearest_text None = []
nearest_text (Some name) = codes ", the nearest is " ++ name

-- why a line is refused
abbrev pub refusal_text : Refusal → List ℕ
refusal_text (UnknownSymbol near) = codes "no such symbol" ++ nearest_text near
refusal_text AmbiguousSymbol = codes "symbols of this name differ"
refusal_text WrongForm = codes "not in form"
refusal_text LongLine = codes "longer than 1024 bytes"

-- the line that says where and why
abbrev pub refused_at : (number column : ℕ) → Refusal → List ℕ
refused_at number column why =
    line (codes "notes: line " ++ number_text number ++ codes " column " ++ number_text column ++ codes ": " ++ refusal_text why)

abbrev pub refused_text : Refused → List ℕ
refused_text r = refused_at r.line r.fault.column r.fault.refusal
