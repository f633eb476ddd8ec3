-- Runs within two bounds on backward transfers go alike until the one within the smaller bound turns once too often.
use Rattle.std.proofs.Common.{◌≡◌, ◌≢◌, ◌⊎◌, inl, inr, refl, ap, sym, ◌∙◌, subst, arith, ℕ, zero, suc, ◌+◌, ◌≤◌, Bool, true, false, nat_le, ◌==◌}
use Rattle.std.proofs.lemmas.Bool.Decides.{nat_tests}
use Rattle.machine_spec.specs.Endings.{Start}
use Rattle.bilv_spec.specs.Run.{Program, Place, Run, Going, Exited, Failed, Turned, Step, Stops, Arrives, Exits, turn, arrive, after_step, step, one_more, run}
use Rattle.bilv_spec.specs.Verdict.{IsStart, RunExits, RunFails, RunTurns, Verdict, Holds, Vacuous, Fails, Unroll, IsRight}
use Rattle.bilv_spec.specs.Questions.{Reading, by_file, point_of, read_on, read_run, ReadingFails, ReadingTurns, EndsBy, IsTrueOver}
use Rattle.bilv_spec.specs.Evidence.{IsDue}
use Rattle.call_spec.specs.Calls.{Question, EntryQuestion, FailQuestion, TurnQuestion}
use Rattle.turn_laws.specs.Bounds.{HasTurned, RunsGoAlike, ReadingsGoAlike, HasEnds, EndsRise, AreAlike, QuestionsRise, VerdictsRise, HoldsFalls, DuesRise}

-- a run within the bound k, and where the run within a greater bound is then
abbrev IsAlike : ℕ → Run → Run → Type 0
IsAlike k (Going turns n c) s = (turns ≤ k) × (s ≡ Going turns n c)
IsAlike k (Exited at n) s = s ≡ Exited at n
IsAlike k (Failed e at n) s = s ≡ Failed e at n
IsAlike k (Turned at n) s = Unit {0}

turns_alike : (k m turns n at : ℕ) (c : Place) → turns ≤ k → k ≤ m → (a b : Bool) → (turns == k) ≡ a → (turns == m) ≡ b →
    IsAlike k (turn a turns n at c) (turn b turns n at c)
turns_alike k m turns n at c l h true b e f = tt
turns_alike k m turns n at c l h false false e f = let next : turns + 1 ≤ k = grind (arith, nat_tests) in (next, refl)
turns_alike k m turns n at c l h false true e f =
    let other : turns ≢ k = grind (arith, nat_tests) in let same : turns ≡ m = grind (arith, nat_tests) in absurd (omega (arith, other, same, l, h))

arrives_alike : (k m turns n at : ℕ) (c : Place) → turns ≤ k → k ≤ m → (b : Bool) → IsAlike k (arrive b k turns n at c) (arrive b m turns n at c)
arrives_alike k m turns n at c l h false = (l, refl)
arrives_alike k m turns n at c l h true = turns_alike k m turns n at c l h (turns == k) (turns == m) refl refl

step_alike : (k m turns n at : ℕ) → turns ≤ k → k ≤ m → (s : Step) → IsAlike k (after_step k turns n at s) (after_step m turns n at s)
step_alike k m turns n at l h (Stops e) = refl
step_alike k m turns n at l h (Exits s) = refl
step_alike k m turns n at l h (Arrives c) = arrives_alike k m turns n at c l h (nat_le c.state.pc at)

-- it has turned, or is there too
of_alike : (k : ℕ) (r s : Run) → IsAlike k r s → HasTurned r ⊎ (s ≡ r)
of_alike k (Going turns n c) s h = inr h.1
of_alike k (Exited at n) s h = inr h
of_alike k (Failed e at n) s h = inr h
of_alike k (Turned at n) s h = inl tt

-- a run that has turned, by its last step
pub turned : (r : Run) → HasTurned r → (at n : ℕ) × (r ≡ Turned at n)
turned (Going turns n c) h = absurd h
turned (Exited at n) h = absurd h
turned (Failed e at n) h = absurd h
turned (Turned at n) h = (at, n, refl)

module _ (p : Program) (k m : ℕ) (h : k ≤ m) where
  module _ (start : Start) where
    more_alike : (r s : Run) → IsAlike k r s → IsAlike k (one_more p k start r) (one_more p m start s)
    more_alike (Going turns n c) s a =
        subst (λ (z : Run). IsAlike k (one_more p k start (Going turns n c)) (one_more p m start z)) (sym a.1)
        (step_alike k m turns n c.state.pc a.0 h (step p start.state c (start.choices n)))
    more_alike (Exited at n) s a = ap (one_more p m start) a
    more_alike (Failed e at n) s a = ap (one_more p m start) a
    more_alike (Turned at n) s a = tt

    alike : (steps : ℕ) → IsAlike k (run p k start steps) (run p m start steps)
    unfolding run
    alike zero = (omega arith, refl)
    alike (suc n) = more_alike (run p k start n) (run p m start n) (alike n)

    pub go_alike : (steps : ℕ) → HasTurned (run p k start steps) ⊎ (run p m start steps ≡ run p k start steps)
    go_alike steps = of_alike k (run p k start steps) (run p m start steps) (alike steps)

    exits_rise : RunExits p k start → RunExits p m start
    exits_rise (steps, at, n, is) = (steps, at, n, subst (λ (z : Run). IsAlike k z (run p m start steps)) is (alike steps))

    pub fails_rise : RunFails p k start → RunFails p m start
    fails_rise (steps, at, n, e, is) = (steps, at, n, e, subst (λ (z : Run). IsAlike k z (run p m start steps)) is (alike steps))

    turns_fall : RunTurns p m start → RunTurns p k start
    turns_fall (steps, at, n, is) = elim (go_alike steps) [
      | inl t ↦ (let q = turned (run p k start steps) t in (steps, q.0, q.1, q.2))
      | inr e ↦ (steps, at, n, sym e ∙ is)
    ]

    fails_fall : RunFails p m start → RunFails p k start ⊎ RunTurns p k start
    fails_fall (steps, at, n, v, is) = elim (go_alike steps) [
      | inl t ↦ inr (let q = turned (run p k start steps) t in (steps, q.0, q.1, q.2))
      | inr e ↦ inl (steps, at, n, v, sym e ∙ is)
    ]

    exits_fall : RunExits p m start → RunExits p k start ⊎ RunTurns p k start
    exits_fall (steps, at, n, is) = elim (go_alike steps) [
      | inl t ↦ inr (let q = turned (run p k start steps) t in (steps, q.0, q.1, q.2))
      | inr e ↦ inl (steps, at, n, sym e ∙ is)
    ]

    pub ends : HasEnds p k m start
    ends = record { exits = exits_rise; fails = fails_rise; turns = turns_fall; failed = fails_fall }

  module _ (r : Reading) where
    on_alike : (x y : Run) → IsAlike k x y → IsAlike k (read_on p k r x) (read_on p m r y)
    on_alike (Going turns n c) s a =
        subst (λ (z : Run). IsAlike k (read_on p k r (Going turns n c)) (read_on p m r z)) (sym a.1)
        (step_alike k m turns n c.state.pc a.0 h (step (by_file p) r.state c (r.choice (point_of turns c))))
    on_alike (Exited at n) s a = ap (read_on p m r) a
    on_alike (Failed e at n) s a = ap (read_on p m r) a
    on_alike (Turned at n) s a = tt

    read_alike : (steps : ℕ) → IsAlike k (read_run p k r steps) (read_run p m r steps)
    unfolding read_run
    read_alike zero = (omega arith, refl)
    read_alike (suc n) = on_alike (read_run p k r n) (read_run p m r n) (read_alike n)

    pub read_go_alike : (steps : ℕ) → HasTurned (read_run p k r steps) ⊎ (read_run p m r steps ≡ read_run p k r steps)
    read_go_alike steps = of_alike k (read_run p k r steps) (read_run p m r steps) (read_alike steps)

    reading_fails : ReadingFails p k r → ReadingFails p m r
    reading_fails (steps, at, n, e, is) = (steps, at, n, e, subst (λ (z : Run). IsAlike k z (read_run p m r steps)) is (read_alike steps))

    reading_turns : ReadingTurns p m r → ReadingTurns p k r
    reading_turns (steps, at, n, is) = elim (read_go_alike steps) [
      | inl t ↦ (let q = turned (read_run p k r steps) t in (steps, q.0, q.1, q.2))
      | inr e ↦ (steps, at, n, sym e ∙ is)
    ]

    reading_failed : ReadingFails p m r → ReadingFails p k r ⊎ ReadingTurns p k r
    reading_failed (steps, at, n, v, is) = elim (read_go_alike steps) [
      | inl t ↦ inr (let q = turned (read_run p k r steps) t in (steps, q.0, q.1, q.2))
      | inr e ↦ inl (steps, at, n, v, sym e ∙ is)
    ]

    -- a question of one bound is that of another where the run ends so
    moved : (asked : ℕ → Bool) (i j : ℕ) (from to : Question) → (EndsBy p i r from → EndsBy p j r to) → IsTrueOver p asked i r from →
        IsTrueOver p asked j r to
    moved asked i j from to f t = record { choice = t.choice; entry = t.entry; ends = f t.ends }

    -- a reading that fails within the greater bound fails or turns within the smaller one
    failed_over : (asked : ℕ → Bool) → IsTrueOver p asked m r FailQuestion → IsTrueOver p asked k r FailQuestion ⊎ IsTrueOver p asked k r TurnQuestion
    failed_over asked t = elim (reading_failed t.ends) [
      | inl f ↦ inl (moved asked m k FailQuestion FailQuestion (λ x. f) t)
      | inr f ↦ inr (moved asked m k FailQuestion TurnQuestion (λ x. f) t)
    ]

    pub over : (asked : ℕ → Bool) → AreAlike p asked k m r
    over asked = record {
      entry = (moved asked k m EntryQuestion EntryQuestion (λ x. x), moved asked m k EntryQuestion EntryQuestion (λ x. x));
      fails = moved asked k m FailQuestion FailQuestion reading_fails;
      turns = moved asked m k TurnQuestion TurnQuestion reading_turns;
      failed = failed_over asked;
    }

  pub right : (v : Verdict) → v ≢ Unroll → IsRight p k v → IsRight p m v
  right Vacuous other is = is
  right Fails other (start, is, f) = (start, is, fails_rise start f)
  right Unroll other is = absurd (other refl)
  right Holds other (entered, all) = (entered, λ start is. exits_rise start (all start is))

  pub holds : ((start : Start) → IsStart p start → ¬ RunTurns p k start) → IsRight p m Holds → IsRight p k Holds
  holds none (entered, all) =
      (entered, λ start is. elim (exits_fall start (all start is)) [ inl e ↦ e | inr t ↦ absurd (none start is t) ])

  pub due : (question : Question) → (question ≡ TurnQuestion → (start : Start) → IsStart p start → ¬ RunTurns p k start) → IsDue p k question →
      IsDue p m question
  due EntryQuestion none is = tt
  due FailQuestion none is = is
  due TurnQuestion none (entered, never) =
      (entered, λ start is f. elim (fails_fall start f) [ inl g ↦ never start is g | inr t ↦ none refl start is t ])

pub runs_go_alike : RunsGoAlike
runs_go_alike p k m h start steps = go_alike p k m h start steps

pub readings_go_alike : ReadingsGoAlike
readings_go_alike p k m h r steps = read_go_alike p k m h r steps

pub ends_rise : EndsRise
ends_rise p k m h start = ends p k m h start

pub questions_rise : QuestionsRise
questions_rise p asked k m h r = over p k m h r asked

pub verdicts_rise : VerdictsRise
verdicts_rise p k m h v other is = right p k m h v other is

pub holds_falls : HoldsFalls
holds_falls p k m h none is = holds p k m h none is

pub dues_rise : DuesRise
dues_rise p k m h question none is = due p k m h question none is
