-- Names of functions that give no address.
use Rattle.std.specs.Prelude.{ℕ, Bool, List, codes}
use Rattle.bilv_spec.specs.Notes.{Function, At, Named}
use Rattle.word_spec.specs.Texts.{line}
use Rattle.notes_spec.specs.Verified.{ambiguous_text}
use Rattle.elf32_reader.specs.declared.symbols.SymFault.{SymFault}
use Rattle.elf32_reader.specs.declared.symbols.SymFault.TheVariants.{NoFunction, Ambiguous}
use Rattle.elf32_reader.specs.Symbols.{IsMissed}

-- the name of a function gives no address at which a row can stand, or several
abbrev pub IsMissedFunction : (narrow : Bool) → List ℕ → Function → SymFault → Type 0
IsMissedFunction narrow file (At a) fault = ⊥
IsMissedFunction narrow file (Named name) fault = IsMissed narrow file name fault

-- the text that says so
abbrev pub missed_text : SymFault → List ℕ
missed_text NoFunction = line (codes "notes: NoFunction")
missed_text (Ambiguous a b) = ambiguous_text a b
