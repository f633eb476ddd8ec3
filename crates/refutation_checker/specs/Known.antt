-- What a checker's marks stand for.
use Rattle.std.specs.Prelude.{◌≡◌, ℕ, ◌+◌, ◌-◌, ◌≤◌, ◌<◌, false, List, [], ◌∷◌, Some, take, length, slice_index_or, vec_len, vec_capacity}
use Rattle.clause_spec.specs.Clauses.{Clause, Cnf}
use Rattle.clause_spec.specs.Refutation.{LogLine, Add, Hint, Known, known_at_start, known_after, some_above}
use Rattle.refutation_checker.specs.declared.marks.Marks.{Marks}
use Rattle.refutation_checker.specs.Entries.{look_up, ids_of, IsRising}
use Rattle.refutation_checker.specs.Slots.{AreUpTo, IsWithin}

-- what the marks know of the lines so far
abbrev pub known_of : Marks → Known
known_of m = record { last = m.last; present = look_up m.entries.items; ended = m.ended }

-- what is known after lines of which none is refused
abbrev pub known_through : Known → List LogLine → Known
known_through k [] = k
known_through k (l ∷ ls) = known_through (known_after k l) ls

-- what is known of clauses and so many lines
abbrev pub known_behind : List Clause → List LogLine → (taken : ℕ) → Known
known_behind cs log taken = known_through (known_at_start cs) (take taken log)

-- the clauses are kept by rising ids, none above the last; the names rise, and each variable of a clause has a slot
pub record IsGood (m : Marks) : Type 0 where
  pub named : IsRising m.names.items
  pub rising : IsRising (ids_of m.entries.items)
  pub highest : (k : ℕ) → slice_index_or (ids_of m.entries.items) k 0 ≤ m.last
  pub within : (i : ℕ) (c : Clause) → look_up m.entries.items i ≡ Some c → IsWithin m.names.items (length m.slots.items) c

-- each clause that a line of the log adds over the first n variables has slots for its variables
abbrev pub HaveSlots : (n : ℕ) → (names : List ℕ) → (size : ℕ) → List LogLine → Type 0
HaveSlots n names size log = (k : ℕ) → k < length log → (id : ℕ) (c : Clause) (hints : List Hint) →
    slice_index_or log k (Add id c hints) ≡ Add id c hints → some_above n c ≡ false → IsWithin names size c

-- the marks have taken so many lines of the log over the clauses, and have room for the others
pub record HaveTaken (m : Marks) (cnf : Cnf) (log : List LogLine) (taken : ℕ) : Type 0 where
  pub good : IsGood m
  pub known : known_of m ≡ known_behind cnf.clauses log taken
  pub slots : AreUpTo taken m.slots.items
  pub ready : HaveSlots cnf.variables m.names.items (length m.slots.items) log
  pub room : vec_len m.entries + (length log - taken) ≤ vec_capacity m.entries
