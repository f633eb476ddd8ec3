-- The upgrade of notes to version 2: the same notes, each line number one greater, and so the same verdict.
use Rattle.std.specs.Prelude.{ℕ, ◌≡◌, ◌↔◌, ◌+◌, false, List, ◌∷◌, ◌++◌, None, if◌then◌else◌, map, codes}
use Rattle.notes_spec.specs.Scopes.{Vocabulary}
use Rattle.bilv_spec.specs.Notes.{Notes, NoteLine, Assert}
use Rattle.notes_spec.specs.NotesGrammar.{lines_of, is_second, IsNotesText}
use Rattle.notes_spec.specs.RvNames.{rv_names}
use Rattle.notes_spec.specs.ArmNames.{arm_names}
use Rattle.bilv_spec.specs.Run.{Program}
use Rattle.bilv_spec.specs.Verdict.{Verdict, IsRight}

-- the text of version 2: one of version 2 as it is, one of version 1 after the line of the version
abbrev pub upgraded : List ℕ → List ℕ
upgraded text = if is_second (lines_of text) then text else codes "notes 2" ++ 10 ∷ text

abbrev pub later_line : NoteLine → NoteLine
later_line l = record l { line = l.line + 1 }

abbrev pub later_assert : Assert → Assert
later_assert a = record a { line = a.line + 1 }

-- the notes with each line number one greater
abbrev pub later_notes : Notes → Notes
later_notes n = record n { requires = map later_line n.requires; ensures = map later_line n.ensures; asserts = map later_assert n.asserts }

-- the program with these notes
abbrev pub later_program : Program → Program
later_program p = record p { notes = later_notes p.notes }

-- what is printed of a text of version 1 says the same notes, each line number one greater, where nothing of the machine has the name `all`
abbrev pub UpgradeSaysSame : Type 0
UpgradeSaysSame = (v : Vocabulary) → v.names (codes "all") ≡ None → (text : List ℕ) (notes : Notes) →
    is_second (lines_of text) ≡ false → IsNotesText v text notes → IsNotesText v (upgraded text) (later_notes notes)

-- no machine names anything `all`
abbrev pub NoneIsAll : Type 0
NoneIsAll = (rv_names (codes "all") ≡ None) × (arm_names (codes "all") ≡ None)

-- a program whose lines have numbers one greater has the same right verdict
abbrev pub VerdictIsSame : Type 0
VerdictIsSame = (p : Program) (k : ℕ) (v : Verdict) → IsRight p k v ↔ IsRight (later_program p) k v
