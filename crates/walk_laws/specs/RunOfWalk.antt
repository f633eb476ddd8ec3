-- The walk of a reading through the unrolled program is its run.
use Rattle.std.specs.Prelude.{ℕ, ◌≡◌, ◌<◌, ◌↔◌, Bool, length}
use Rattle.bilv_spec.specs.Run.{Program, Run, Going, Exited, Failed, Turned}
use Rattle.bilv_spec.specs.Points.{Point}
use Rattle.bilv_spec.specs.LiveFlags.{IsRead}
use Rattle.bilv_spec.specs.Questions.{Reading, IsTrueOver, IsEntryStateOver, point_of, read_run}
use Rattle.call_spec.specs.Calls.{Question}
use Rattle.bilv_spec.specs.PointLaws.{HasLawfulRows}
use Rattle.walk_spec.specs.Unrolled.{UnrolledProgram, Walk, WalkIsAt, WalkExits, WalkFails, WalkTurns, point_at, walk}
use Rattle.walk_spec.specs.Unrolling.{IsCarriedOf, IsUnrolling}
use Rattle.term_spec.specs.WalkQuestions.{IsTrueOfWalkOver}
use Rattle.term_spec.specs.TermLaws.{AsksKnown, AsksLiterals}

-- the walk is where the run is, with the same registers and memory and the flags that are read later, or it has ended as the run has
abbrev pub IsSame : Program → UnrolledProgram → Walk → Run → Type 0
IsSame p u (WalkIsAt i c) (Going turns n d) =
    (i < length u.points) × ((point_at u i).point ≡ point_of turns d) × IsCarriedOf (λ f. IsRead p f d.state.pc) d.state c
IsSame p u WalkExits (Exited at n) = Unit {0}
IsSame p u (WalkFails e) (Failed f at n) = e ≡ f
IsSame p u WalkTurns (Turned at n) = Unit {0}
IsSame p u w r = ⊥

-- the walk of a reading is its run, step by step, where the reading has the kept literals of the file
abbrev pub WalkIsRun : Type 0
WalkIsRun = (p : Program) → HasLawfulRows p → (k : ℕ) (u : UnrolledProgram) → IsUnrolling p k u → (asked : ℕ → Bool) → AsksLiterals p k asked →
    (r : Reading) → ((point : Point) → r.choice point < 4) → IsEntryStateOver p asked r.state →
    (steps : ℕ) → IsSame p u (walk u r steps) (read_run p k r steps)

-- the questions of the unrolled program are those of the program, over each set of known bytes that has the literals
abbrev pub WalkAnswersOver : Type 0
WalkAnswersOver = (p : Program) → HasLawfulRows p → (k : ℕ) (u : UnrolledProgram) → IsUnrolling p k u →
    (asked : ℕ → Bool) → AsksKnown p asked → AsksLiterals p k asked →
    (r : Reading) (question : Question) → IsTrueOfWalkOver u asked r question ↔ IsTrueOver p asked k r question
