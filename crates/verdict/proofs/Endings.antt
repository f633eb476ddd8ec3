-- What a run that is found says of a verdict.
use Rattle.std.proofs.Common.{◌≡◌, refl, sym, ap, ◌∙◌, ℕ, ◌-◌, ◌≤◌, Some}
use Rattle.bilv_spec.specs.Run.{Program}
use Rattle.machine_spec.specs.Endings.{Event as RunEvent}
use Rattle.bilv_spec.specs.Reports.{FoundEvent, FoundTurn, found}
use Rattle.machine_spec.specs.StateText.{Layout}
use Rattle.bilv_spec.specs.PointLaws.{HasLawfulRows, ReadsMemory}
use Rattle.call_spec.specs.Calls.{FailQuestion, TurnQuestion}
use Rattle.bilv_spec.specs.Questions.{IsSatisfiable}
use Rattle.bilv_spec.specs.Answers.{IsWithin, start_in}
use Rattle.start_value.specs.Starts.{written_of}
use Rattle.state_text.specs.Starts.{event_of}
use Rattle.start_value.specs.declared.start.Start.{Start}
use Rattle.state_text.specs.declared.start.Event.{Event}
use Rattle.table_run.specs.Endings.{found_of}
use Rattle.table_run.specs.declared.ending.Ending.{Ending}
use Rattle.table_run.specs.declared.ending.Ending.TheVariants as ending
use Rattle.verdict.specs.Grounds.{IsShownBy}
use Rattle.verdict.specs.Verdicts.{IsVerdict, budget_of}
use Rattle.call_form.specs.declared.budget.Budget.{Budget}
use Rattle.verdict.specs.declared.verdicts.Verdict.TheVariants.{Fails, Unroll}
use Rattle.verdict.proofs.Judging.{no_other_event, no_other_turn, fails_report, turns_report}

-- what is found as an event is an ending by one
no_event : (e : Ending) → ((v : Event) (at step : ℕ) → e ≡ ending.Failed v at step → ⊥) → (r : RunEvent) (at n : ℕ) → found_of e ≡ FoundEvent r at n → ⊥
no_event (ending.Exit a s) none r at n h = absurd (cc)
no_event (ending.Failed v a s) none r at n h = none v a s refl
no_event (ending.Turned a s) none r at n h = absurd (cc)
no_event (ending.Left a s) none r at n h = absurd (cc)

no_turn : (e : Ending) → ((at step : ℕ) → e ≡ ending.Turned at step → ⊥) → (at n : ℕ) → found_of e ≡ FoundTurn at n → ⊥
no_turn (ending.Exit a s) none at n h = absurd (cc)
no_turn (ending.Failed v a s) none at n h = absurd (cc)
no_turn (ending.Turned a s) none at n h = none a s refl
no_turn (ending.Left a s) none at n h = absurd (cc)

module _ (p : Program) (lawful : HasLawfulRows p) (reads : ReadsMemory p) (layout : Layout) (b : Budget) (within : IsWithin p (budget_of b)) (some : 1
    ≤ b.points) (s : Start) (e : Ending)
    (is : found_of e ≡ found p (Some b.unroll) (start_in p layout (written_of s)) (b.points - 1)) where
  pub failing : IsShownBy p b.unroll layout FailQuestion s → (v : Event) (at step : ℕ) → e ≡ ending.Failed v at step →
      IsVerdict p layout b (Fails v at step s)
  failing h v at step same =
      fails_report p lawful reads layout (budget_of b) within some (written_of s) h.0 h.1.0 h.1.1 (event_of v) at step (sym is ∙ ap found_of same)

  pub fails_somehow : IsShownBy p b.unroll layout FailQuestion s → ((v : Event) (at step : ℕ) → e ≡ ending.Failed v at step → ⊥) → ⊥
  fails_somehow h none =
      no_other_event p lawful reads layout (budget_of b) within some (written_of s) h.0 h.1.0 h.1.1 (found_of e) (sym is) (no_event e none)

  pub turning : (IsSatisfiable p b.unroll FailQuestion → ⊥) → IsShownBy p b.unroll layout TurnQuestion s → (at step : ℕ) →
      e ≡ ending.Turned at step →
      IsVerdict p layout b (Unroll at step s)
  turning never h at step same =
      turns_report p lawful reads layout (budget_of b) within some (written_of s) h.0 never h.1.0 h.1.1 at step (sym is ∙ ap found_of same)

  pub turns_somehow : IsShownBy p b.unroll layout TurnQuestion s → ((at step : ℕ) → e ≡ ending.Turned at step → ⊥) → ⊥
  turns_somehow h none = no_other_turn p lawful reads layout (budget_of b) within some (written_of s) h.0 h.1.0 h.1.1 (found_of e) (sym is) (no_turn e none)
