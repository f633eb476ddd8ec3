-- The program of two texts: an ELF file and notes.
use Rattle.std.specs.Prelude.{ℕ, ◌≡◌, List, Option, if◌then◌else◌}
use Rattle.bilv_spec.specs.Notes.{Notes, Expr}
use Rattle.bilv_spec.specs.Run.{Program}
use Rattle.bilv_spec.specs.Files.{is_rv, machine_of, program_of, IsFunctionAt}
use Rattle.call_spec.specs.Calls.{Options}
use Rattle.notes_spec.specs.Scopes.{Vocabulary, Plain}
use Rattle.notes_spec.specs.NotesGrammar.{IsNotesText}
use Rattle.notes_spec.specs.RvNames.{rv_names}
use Rattle.notes_spec.specs.ArmNames.{arm_names}

-- what notes call its registers and flags
abbrev pub names_of : List ℕ → List ℕ → Option Expr
names_of file w = if is_rv file then rv_names w else arm_names w

-- what notes call them, and the unit of their addresses; lines of invariants and contracts are none yet
abbrev pub vocabulary_of : Options → List ℕ → Vocabulary
vocabulary_of o file = record { names = names_of file; narrow = (machine_of o file).narrow; dialect = Plain }

-- the two texts are this program
abbrev pub IsProgram : Options → List ℕ → List ℕ → Program → Type 0
IsProgram o file text p =
    (notes : Notes) × (entry : ℕ) × IsNotesText (vocabulary_of o file) text notes × IsFunctionAt (machine_of o file).narrow file notes.entry entry
    × (p ≡ program_of (machine_of o file) file notes entry)
