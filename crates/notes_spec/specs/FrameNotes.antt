-- Notes with invariants and contracts: what a text says of them.
use Rattle.std.specs.Prelude.{ℕ, ◌≡◌, ◌+◌, Bool, false, List, [], ◌∷◌, ◌++◌, ◌==◌, not, nat_eq, if◌then◌else◌, map, filter}
use Rattle.std.specs.List.{list_any}
use Rattle.word_spec.specs.RowFiles.{from_to}
use Rattle.machine_spec.specs.Machine.{Machine}
use Rattle.bilv_spec.specs.Notes.{NoteLine, Notes}
use Rattle.bilv_spec.specs.Files.{program_of}
use Rattle.frame_spec.specs.Frames.{Writes, Contract}
use Rattle.frame_spec.specs.FrameVerdict.{Whole}
use Rattle.notes_spec.specs.Scopes.{Vocabulary, Changed, ChangedRegister, ChangedFlag}
use Rattle.notes_spec.specs.NotesGrammar.{Says, InvariantIs, NeedIs, GiveIs, ModifiesAre, WritesAre, IsNotesText}

-- notes, whose assert lines have the invariants among them; the numbers of the lines that are invariants; and the contracts by their ranks
pub record FrameNotes : Type 0 where
  pub notes : Notes
  pub invariants : List ℕ
  pub contracts : List Contract

-- the numbers of the invariants, n being the number of the first line
abbrev pub invariants_of : ℕ → List Says → List ℕ
invariants_of n [] = []
invariants_of n (InvariantIs a e ∷ says) = n ∷ invariants_of (n + 1) says
invariants_of n (_ ∷ says) = invariants_of (n + 1) says

-- the addresses of the lines of contracts
abbrev pub places_of : List Says → List ℕ
places_of [] = []
places_of (NeedIs a e ∷ says) = a ∷ places_of says
places_of (GiveIs a e ∷ says) = a ∷ places_of says
places_of (ModifiesAre a cs ∷ says) = a ∷ places_of says
places_of (WritesAre a e n ∷ says) = a ∷ places_of says
places_of (_ ∷ says) = places_of says

-- each number once, where it stands first
abbrev pub each_once : List ℕ → List ℕ
each_once [] = []
each_once (a ∷ rest) = a ∷ filter (λ b. not (b == a)) (each_once rest)

-- what the contract of an address needs, n being the number of the first line
abbrev pub needs_at : (at n : ℕ) → List Says → List NoteLine
needs_at at n [] = []
needs_at at n (NeedIs a e ∷ says) = if a == at then record { line = n; says = e } ∷ needs_at at (n + 1) says else needs_at at (n + 1) says
needs_at at n (_ ∷ says) = needs_at at (n + 1) says

-- what it gives
abbrev pub gives_at : (at n : ℕ) → List Says → List NoteLine
gives_at at n [] = []
gives_at at n (GiveIs a e ∷ says) = if a == at then record { line = n; says = e } ∷ gives_at at (n + 1) says else gives_at at (n + 1) says
gives_at at n (_ ∷ says) = gives_at at (n + 1) says

-- the bytes that it may write
abbrev pub writes_at : (at n : ℕ) → List Says → List Writes
writes_at at n [] = []
writes_at at n (WritesAre a e count ∷ says) =
    if a == at then record { line = n; says = e; count = count } ∷ writes_at at (n + 1) says else writes_at at (n + 1) says
writes_at at n (_ ∷ says) = writes_at at (n + 1) says

-- the register or the flag is among those that it may change
abbrev pub is_register : ℕ → Changed → Bool
is_register r (ChangedRegister q) = nat_eq r q
is_register r (ChangedFlag g) = false

abbrev pub is_flag : ℕ → Changed → Bool
is_flag f (ChangedRegister q) = false
is_flag f (ChangedFlag g) = nat_eq f g

abbrev pub changes_at : (at : ℕ) → List Says → List Changed
changes_at at [] = []
changes_at at (ModifiesAre a cs ∷ says) = if a == at then cs ++ changes_at at says else changes_at at says
changes_at at (_ ∷ says) = changes_at at says

-- The contract of an address: its lines in their order, its registers and flags by their numbers. Registers are below 32, flags below 4.
abbrev pub contract_of : List Says → (at : ℕ) → Contract
contract_of says at = record {
  at = at;
  needs = needs_at at 1 says;
  gives = gives_at at 1 says;
  writes = writes_at at 1 says;
  registers = filter (λ r. list_any (is_register r) (changes_at at says)) (from_to 0 32);
  flags = filter (λ f. list_any (is_flag f) (changes_at at says)) (from_to 0 4);
}

-- the contracts, ranked by their first lines
abbrev pub contracts_of : List Says → List Contract
contracts_of says = map (contract_of says) (each_once (places_of says))

-- the text says these notes, with these invariants and contracts
pub record IsFrameText (v : Vocabulary) (text : List ℕ) (n : FrameNotes) : Type 0 where
  pub is_notes : IsNotesText v text n.notes
  pub invariants_are : invariants_of 1 is_notes.says ≡ n.invariants
  pub contracts_are : contracts_of is_notes.says ≡ n.contracts

-- the whole of a machine, an ELF file, such notes and the address of their function
abbrev pub whole_of : Machine → List ℕ → FrameNotes → ℕ → Whole
whole_of m file n entry = record { program = program_of m file n.notes entry; invariants = n.invariants; contracts = n.contracts }
