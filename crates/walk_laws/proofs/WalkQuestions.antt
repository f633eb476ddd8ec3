-- The questions of an unrolled program are those of its program.
use Rattle.std.proofs.Common.{◌≡◌, ℕ, ◌<◌, refl, ap, sym, subst, Bool}
use Rattle.bilv_spec.specs.Run.{Program, Run, Going, Exited, Failed, Turned}
use Rattle.machine_spec.specs.Endings.{Event}
use Rattle.bilv_spec.specs.Points.{Point}
use Rattle.bilv_spec.specs.Questions.{Reading, EndsBy, IsEntryStateOver, read_run}
use Rattle.call_spec.specs.Calls.{Question, EntryQuestion, FailQuestion, TurnQuestion}
use Rattle.bilv_spec.specs.PointLaws.{HasLawfulRows}
use Rattle.walk_spec.specs.Unrolled.{UnrolledProgram, Walk, WalkIsAt, WalkExits, WalkFails, WalkTurns, walk}
use Rattle.walk_spec.specs.Unrolling.{IsUnrolling}
use Rattle.term_spec.specs.WalkQuestions.{WalkEndsBy}
use Rattle.term_spec.specs.TermLaws.{AsksLiterals}
use Rattle.term_spec.proofs.EntrySame.{entry_over}
use Rattle.walk_laws.specs.RunOfWalk.{IsSame, WalkAnswersOver}
use Rattle.walk_laws.proofs.WalkRuns.{walk_is_run}

module _ (p : Program) (u : UnrolledProgram) where
  failed_there : (e : Event) (x : Run) → IsSame p u (WalkFails e) x → (at n : ℕ) × (x ≡ Failed e at n)
  failed_there e (Failed f at n) h = (at, n, ap (λ z. Failed z at n) (sym h))
  failed_there e (Going turns n c) h = absurd h
  failed_there e (Exited at n) h = absurd h
  failed_there e (Turned at n) h = absurd h

  failed_here : (w : Walk) (e : Event) (at n : ℕ) → IsSame p u w (Failed e at n) → w ≡ WalkFails e
  failed_here (WalkFails f) e at n h = ap WalkFails h
  failed_here (WalkIsAt i c) e at n h = absurd h
  failed_here WalkExits e at n h = absurd h
  failed_here WalkTurns e at n h = absurd h

  turned_there : (x : Run) → IsSame p u WalkTurns x → (at n : ℕ) × (x ≡ Turned at n)
  turned_there (Turned at n) h = (at, n, refl)
  turned_there (Going turns n c) h = absurd h
  turned_there (Exited at n) h = absurd h
  turned_there (Failed e at n) h = absurd h

  turned_here : (w : Walk) (at n : ℕ) → IsSame p u w (Turned at n) → w ≡ WalkTurns
  turned_here WalkTurns at n h = refl
  turned_here (WalkIsAt i c) at n h = absurd h
  turned_here WalkExits at n h = absurd h
  turned_here (WalkFails f) at n h = absurd h

module _ (p : Program) (lawful : HasLawfulRows p) (k : ℕ) (u : UnrolledProgram) (un : IsUnrolling p k u) (asked : ℕ → Bool) (asks : AsksLiterals p k asked)
    (r : Reading) (small : (point : Point) → r.choice point < 4) (is : IsEntryStateOver p asked r.state) where
  same : (n : ℕ) → IsSame p u (walk u r n) (read_run p k r n)
  same n = walk_is_run p lawful k u un asked asks r small is n

  ends_from : (question : Question) → WalkEndsBy u r question → EndsBy p k r question
  ends_from EntryQuestion h = tt
  ends_from FailQuestion (n, e, h) = let q = failed_there p u e (read_run p k r n) (subst (λ (z : Walk). IsSame p u z (read_run p k r n)) h (same n))
      in (n, q.0, q.1, e, q.2)
  ends_from TurnQuestion (n, h) = let q = turned_there p u (read_run p k r n) (subst (λ (z : Walk). IsSame p u z (read_run p k r n)) h (same n))
      in (n, q.0, q.1, q.2)

  ends_to : (question : Question) → EndsBy p k r question → WalkEndsBy u r question
  ends_to EntryQuestion h = tt
  ends_to FailQuestion (n, at, m, e, h) = (n, e, failed_here p u (walk u r n) e at m (subst (λ (z : Run). IsSame p u (walk u r n) z) h (same n)))
  ends_to TurnQuestion (n, at, m, h) = (n, turned_here p u (walk u r n) at m (subst (λ (z : Run). IsSame p u (walk u r n) z) h (same n)))

pub walk_answers_over : WalkAnswersOver
walk_answers_over p lawful k u un asked known asks r question =
    let entry = entry_over p k u un asked known r.state in (
      (λ t. (let is = entry.0 t.entry in record { choice = t.choice; entry = is; ends = ends_from p lawful k u un asked asks r t.choice is question t.ends })),
      (λ t. record { choice = t.choice; entry = entry.1 t.entry; ends = ends_to p lawful k u un asked asks r t.choice t.entry question t.ends }),
    )
