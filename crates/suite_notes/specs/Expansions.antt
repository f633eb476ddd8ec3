-- What a template is over an ELF file.
use Rattle.std.specs.Prelude.{ℕ, ◌≡◌, List, Ok, Err, if◌then◌else◌}
use Rattle.bilv_spec.specs.ElfFaults.{FileFault, IsFirstFileFault, IsImage}
use Rattle.bilv_spec.specs.Files.{is_rv}
use Rattle.symbol_table.specs.Symbols.{symbols_of}
use Rattle.note_template.specs.TemplateLines.{Machine, RiscV, Arm, Refused, expanded}
use Rattle.suite_notes.specs.Refusals.{refused_text}

-- the machine of a file, whose words its templates have
abbrev pub machine_in : (file : List ℕ) → Machine
machine_in file = if is_rv file then RiscV else Arm

-- The notes are what the template stands for over the symbols of an image; where the file is refused, they are the template.
pub data IsNotes (file template notes : List ℕ) : Type 0 where
  expands : IsImage file → expanded (machine_in file) (symbols_of file) template ≡ Ok notes → IsNotes file template notes
  plain : (f : FileFault) → IsFirstFileFault file f → notes ≡ template → IsNotes file template notes

-- the template is refused over the symbols of an image, and this is told of it
pub record IsRefusedTemplate (file template told : List ℕ) : Type 0 where
  pub image : IsImage file
  pub why : Refused
  pub refused : expanded (machine_in file) (symbols_of file) template ≡ Err why
  pub told_is : told ≡ refused_text why
