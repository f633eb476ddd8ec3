-- Templates over files that are refused, and over images.
use Rattle.std.proofs.Common.{◌≡◌, ℕ, List, Result, Err, refl, subst}
use Rattle.bilv_spec.specs.ElfFaults.{ShortFile, BadMagic, BadClass, BadData, BadVersion, BadType, BadMachine, BadHeaderTable, BadSegmentRange, BadFileSize, SegmentsOverlap, BadSymbolTable}
use Rattle.elf32_reader.specs.Refusals.{IsRefused}
use Rattle.elf32_reader.specs.declared.fault.ElfFault.{ElfFault}
use Rattle.elf32_reader.specs.declared.fault.ElfFault.TheVariants.{Short, Magic, Class, Data, Version, «Type», Machine, HeaderTable, SegmentRange, FileSize, Overlap, SymbolTable, Memory}
use Rattle.note_template.specs.TemplateLines as templates
use Rattle.note_template.specs.Views.{IsRefused as IsRefusedBy, refusal_of}
use Rattle.note_template.specs.declared.fault.Refusal.{Refusal}
use Rattle.note_template.specs.declared.fault.TemplateFault.TheVariants as code
use Rattle.suite_notes.specs.Expansions.{IsNotes, expands, plain, IsRefusedTemplate, machine_in}
use Rattle.suite_notes.specs.Refusals.{refused_at, refused_text}
use Rattle.suite_notes.specs.Views.{IsExpanded, IsExpansion}
use Rattle.suite_notes.specs.declared.expanding.Expansion.{Expansion}
use Rattle.suite_notes.specs.declared.expanding.Expansion.TheVariants.{Notes, Refused}

-- of a file that is refused the notes are the template
pub plain_of : (file template : List ℕ) (e : ElfFault) → (e ≡ Memory → ⊥) → IsRefused file e → IsNotes file template template
plain_of file template Short told is = plain ShortFile is refl
plain_of file template Magic told is = plain BadMagic is refl
plain_of file template Class told is = plain BadClass is refl
plain_of file template Data told is = plain BadData is refl
plain_of file template Version told is = plain BadVersion is refl
plain_of file template «Type» told is = plain BadType is refl
plain_of file template Machine told is = plain BadMachine is refl
plain_of file template HeaderTable told is = plain BadHeaderTable is refl
plain_of file template SegmentRange told is = plain BadSegmentRange is refl
plain_of file template FileSize told is = plain BadFileSize is refl
plain_of file template Overlap told is = plain SegmentsOverlap is refl
plain_of file template SymbolTable told is = plain BadSymbolTable is refl
plain_of file template Memory told is = absurd (told refl)

-- what a template is on the machine of a file is what it is over the file
on_machine : (file template : List ℕ) (x : Expansion) → IsExpanded (machine_in file) file template x → IsExpansion file template x
on_machine file template (Notes v) is = expands is.0 is.1
on_machine file template (Refused t) is = record { image = is.0; why = is.1; refused = is.2; told_is = is.3 }

pub expansion_of : (file template : List ℕ) (m : templates.Machine) (x : Expansion) → m ≡ machine_in file → IsExpanded m file template x → IsExpansion file template x
expansion_of file template m x same is = on_machine file template x (subst (λ n. IsExpanded n file template x) same is)

-- why a template is refused, and what is told of it
pub why_found : (answer : Result (List ℕ) templates.Refused) (line column : ℕ) (refusal : Refusal) (told : List ℕ)
    → IsRefusedBy answer (code.Refused line column refusal) → told ≡ refused_at line column (refusal_of refusal)
    → (why : templates.Refused) × (answer ≡ Err why) × (told ≡ refused_text why)
why_found answer line column refusal told is said =
    (record { line = line; fault = record { column = column; refusal = refusal_of refusal } }, is, said)
