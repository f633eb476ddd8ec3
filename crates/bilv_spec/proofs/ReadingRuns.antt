-- The run of a reading is that of the starts that follow it.
use Rattle.std.proofs.Common.{◌≡◌, ℕ, zero, suc, refl, ap, sym, ◌∙◌, subst, arith, Bool, true, false}
use Rattle.std.specs.Prelude.{◌==◌, nat_le, ◌↔◌}
use Rattle.bilv_spec.specs.Run.{Program, Run, Going, Exited, Failed, Turned, Place, Step, Stops, Arrives, Exits, run, one_more, after_step, arrive, turn, step}
use Rattle.machine_spec.specs.Endings.{Start}
use Rattle.bilv_spec.specs.Questions.{Reading, by_file, point_of, read_run, read_on, EndsBy}
use Rattle.call_spec.specs.Calls.{Question, EntryQuestion, FailQuestion, TurnQuestion}
use Rattle.bilv_spec.specs.QuestionLaws.{Follows, StartEndsBy}

-- a run that goes on is at the step of its number
abbrev pub Numbered : ℕ → Run → Type 0
Numbered n (Going turns m c) = m ≡ n
Numbered n x = Unit {0}

turned : (b : Bool) (turns n at : ℕ) (c : Place) → Numbered (suc n) (turn b turns n at c)
turned true turns n at c = tt
turned false turns n at c = omega arith

arrived : (b : Bool) (k turns n at : ℕ) (c : Place) → Numbered (suc n) (arrive b k turns n at c)
arrived false k turns n at c = omega arith
arrived true k turns n at c = turned (turns == k) turns n at c

stepped : (k turns n at : ℕ) (s : Step) → Numbered (suc n) (after_step k turns n at s)
stepped k turns n at (Stops e) = tt
stepped k turns n at (Exits s) = tt
stepped k turns n at (Arrives c) = arrived (nat_le c.state.pc at) k turns n at c

module _ (p : Program) (k : ℕ) (start : Start) where
  more_numbered : (n : ℕ) (x : Run) → Numbered n x → Numbered (suc n) (one_more p k start x)
  more_numbered n (Going turns m c) h =
      subst (λ (z : ℕ). Numbered (suc z) (one_more p k start (Going turns m c))) h (stepped k turns m c.state.pc (step p start.state c (start.choices m)))
  more_numbered n (Exited at m) h = tt
  more_numbered n (Failed e at m) h = tt
  more_numbered n (Turned at m) h = tt

  pub numbered : (n : ℕ) → Numbered n (run p k start n)
  unfolding run
  numbered zero = refl
  numbered (suc n) = more_numbered n (run p k start n) (numbered n)

module _ (p : Program) (k : ℕ) (r : Reading) where
  -- the choice of the step that comes next
  abbrev pub next_choice : Run → ℕ
  next_choice (Going turns n c) = r.choice (point_of turns c)
  next_choice x = 0

  -- the start of the reading's run
  abbrev pub start_of : Start
  start_of = record { state = r.state; choices = λ n. next_choice (read_run p k r n) }

  same_step : (start : Start) → start.state ≡ r.state → (n : ℕ) (x : Run) → Numbered n x →
      ((turns m : ℕ) (c : Place) → x ≡ Going turns m c → start.choices n ≡ r.choice (point_of turns c)) → one_more (by_file p) k start x ≡ read_on p k r x
  same_step start e n (Going turns m c) h f = rw (e, h, f turns m c refl) refl
  same_step start e n (Exited at m) h f = refl
  same_step start e n (Failed x at m) h f = refl
  same_step start e n (Turned at m) h f = refl

  start_runs : (n : ℕ) → run (by_file p) k start_of n ≡ read_run p k r n
  unfolding run read_run
  start_runs zero = refl
  start_runs (suc n) =
      let e = start_runs n in
      ap (one_more (by_file p) k start_of) e
      ∙ same_step start_of refl n (read_run p k r n) (subst (Numbered n) e (numbered (by_file p) k start_of n)) (λ turns m c q. ap next_choice q)

  -- a start that follows the reading has its run
  pub followed : (start : Start) → Follows p k r start → (n : ℕ) → run (by_file p) k start n ≡ read_run p k r n
  unfolding run read_run
  followed start f zero = rw f.state refl
  followed start f (suc n) =
      let e = followed start f n in
      let at : Numbered n (read_run p k r n) = subst (Numbered n) e (numbered (by_file p) k start n) in
      ap (one_more (by_file p) k start) e
      ∙ same_step start f.state n (read_run p k r n) at (λ turns m c q.
      let same : m ≡ n = subst (Numbered n) q at in f.choices n turns c (e ∙ q ∙ ap (λ z. Going turns z c) same))

  pub follows : Follows p k r start_of
  follows = record { state = refl; choices = λ n turns c e. ap next_choice (sym (start_runs n) ∙ e) }

  pub ends_to : (start : Start) → Follows p k r start → (q : Question) → EndsBy p k r q → StartEndsBy p k start q
  ends_to start f EntryQuestion h = h
  ends_to start f FailQuestion h = (h.0, h.1, h.2, h.3, followed start f h.0 ∙ h.4)
  ends_to start f TurnQuestion h = (h.0, h.1, h.2, followed start f h.0 ∙ h.3)

  pub ends_from : (start : Start) → Follows p k r start → (q : Question) → StartEndsBy p k start q → EndsBy p k r q
  ends_from start f EntryQuestion h = h
  ends_from start f FailQuestion h = (h.0, h.1, h.2, h.3, sym (followed start f h.0) ∙ h.4)
  ends_from start f TurnQuestion h = (h.0, h.1, h.2, sym (followed start f h.0) ∙ h.3)

  pub reading_is_start : (q : Question) → ((start : Start) × Follows p k r start) ×
      ((start : Start) → Follows p k r start → EndsBy p k r q ↔ StartEndsBy p k start q)
  reading_is_start q = ((start_of, follows), λ start f. (ends_to start f q, ends_from start f q))
