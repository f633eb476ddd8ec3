-- Contracts as far as their lines were read, as definitions see them.
use Rattle.std.specs.Prelude.{ℕ, ◌≡◌, ◌<◌, List, [], ◌∷◌, map}
use Rattle.std.specs.List.{list_any}
use Rattle.notes_spec.specs.NotesGrammar.{Says}
use Rattle.notes_spec.specs.FrameNotes.{places_of, each_once, needs_at, gives_at, writes_at, changes_at, is_register, is_flag}
use Rattle.notes_value.specs.NoteViews.{note_line_of}
use Rattle.notes_value.specs.FrameViews.{is_in, writes_of}
use Rattle.notes_value.specs.declared.notes.Contract.{Contract}

-- what is said of the address of a contract is what it has
pub record IsContract (says : List Says) (c : Contract) : Type 0 where
  pub needs : needs_at c.at 1 says ≡ map note_line_of c.needs.items
  pub gives : gives_at c.at 1 says ≡ map note_line_of c.gives.items
  pub writes : writes_at c.at 1 says ≡ map writes_of c.writes.items
  pub registers : (r : ℕ) → r < 32 → list_any (is_register r) (changes_at c.at says) ≡ is_in c.registers r
  pub flags : (f : ℕ) → f < 4 → list_any (is_flag f) (changes_at c.at says) ≡ is_in c.flags f

-- so each of a list
abbrev pub EachContract : List Says → List Contract → Type 0
EachContract says [] = Unit {0}
EachContract says (c ∷ cs) = IsContract says c × EachContract says cs

-- they are the contracts of all addresses of which something is said
pub record AreContracts (says : List Says) (cs : List Contract) : Type 0 where
  pub places : each_once (places_of says) ≡ map (λ (c : Contract). c.at) cs
  pub each : EachContract says cs
