-- What templates are, in the code.
use Rattle.std.specs.Prelude.{ℕ, ◌≡◌, List, Ok, Err}
use Rattle.bilv_spec.specs.ElfFaults.{IsImage}
use Rattle.symbol_table.specs.Symbols.{symbols_of}
use Rattle.note_template.specs.TemplateLines as templates
use Rattle.note_template.specs.TemplateLines.{Machine, expanded}
use Rattle.suite_notes.specs.Expansions.{IsNotes, IsRefusedTemplate}
use Rattle.suite_notes.specs.Refusals.{refused_text}
use Rattle.suite_notes.specs.declared.expanding.Expansion.{Expansion}
use Rattle.suite_notes.specs.declared.expanding.Expansion.TheVariants.{Notes, Refused}

-- a template over an image on a machine
abbrev pub IsExpanded : Machine → (file template : List ℕ) → Expansion → Type 0
IsExpanded m file template (Notes notes) = IsImage file × (expanded m (symbols_of file) template ≡ Ok notes.items)
IsExpanded m file template (Refused text) =
    IsImage file × (why : templates.Refused) × (expanded m (symbols_of file) template ≡ Err why) × (text.items ≡ refused_text why)

-- a template over a file
abbrev pub IsExpansion : (file template : List ℕ) → Expansion → Type 0
IsExpansion file template (Notes notes) = IsNotes file template notes.items
IsExpansion file template (Refused text) = IsRefusedTemplate file template text.items
