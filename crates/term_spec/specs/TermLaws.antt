-- What is asked of an unrolled program on entry is what is asked of its program.
use Rattle.std.specs.Prelude.{ℕ, ◌≡◌, ◌<◌, ◌↔◌, Bool, true, List, Contains}
use Rattle.word_spec.specs.Words.{add}
use Rattle.word_spec.specs.State.{State}
use Rattle.bilv_spec.specs.Run.{Program}
use Rattle.bilv_spec.specs.Points.{is_known_at}
use Rattle.bilv_spec.specs.Verdict.{IsEntryState}
use Rattle.bilv_spec.specs.Questions.{IsEntryStateOver}
use Rattle.walk_spec.specs.Unrolled.{UnrolledProgram}
use Rattle.walk_spec.specs.Unrolling.{IsLiteralOf, IsUnrolling}
use Rattle.term_spec.specs.WalkQuestions.{is_asked, MeetsEntry, MeetsEntryOver}

-- the bytes of the kept literals that the rows at points load are asked
abbrev pub AsksLiterals : Program → (k : ℕ) → (ℕ → Bool) → Type 0
AsksLiterals p k asked = (a i : ℕ) → IsLiteralOf p k a → i < 4 → asked (add 32 a i) ≡ true

-- each byte that is asked is known
abbrev pub AsksKnown : Program → (ℕ → Bool) → Type 0
AsksKnown p asked = (a : ℕ) → asked a ≡ true → is_known_at p a ≡ true

-- what is asked on demand is known, and has the literals
abbrev pub AskedIsRight : Type 0
AskedIsRight = (p : Program) (k : ℕ) (u : UnrolledProgram) → IsUnrolling p k u → (added : List ℕ) → ((a : ℕ) → Contains added a → is_known_at p a ≡ true) →
    AsksKnown p (is_asked added u.literals) × AsksLiterals p k (is_asked added u.literals)

-- the entry condition of the unrolled program is that of the program
abbrev pub EntryIsSame : Type 0
EntryIsSame = (p : Program) (k : ℕ) (u : UnrolledProgram) → IsUnrolling p k u → (s : State) → MeetsEntry u s ↔ IsEntryState p s

-- so is its entry condition over the known bytes that are asked
abbrev pub EntryIsSameOver : Type 0
EntryIsSameOver = (p : Program) (k : ℕ) (u : UnrolledProgram) → IsUnrolling p k u → (asked : ℕ → Bool) → AsksKnown p asked → (s : State) →
    MeetsEntryOver u asked s ↔ IsEntryStateOver p asked s
