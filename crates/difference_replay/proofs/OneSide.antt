-- What the runs of a machine say of a side whose machine it is.
use Rattle.std.proofs.Common.{◌≡◌, ℕ, ◌+◌, refl, ap, sym, subst, ◌∙◌, List, Option, Some, None}
use Rattle.word_spec.specs.State.{State}
use Rattle.machine_spec.specs.Endings as runs
use Rattle.machine_spec.specs.StateText as texts
use Rattle.bilv_spec.specs.Run.{Program, Run, Going, Exited, Failed, Turned, Step, Exits, Stops, Arrives, run, step}
use Rattle.bilv_spec.specs.Answers.{start_in}
use Rattle.bilv_spec.specs.Points.{is_known_at}
use Rattle.bilv_spec.specs.Reports.{Found}
use Rattle.machine_spec.specs.StateText.{IsWritten}
use Rattle.pair_spec.specs.Differs.{exit_by_step, exit_of_run, exit_at, found_in}
use Rattle.start_value.specs.Starts.{layout_of, written_of}
use Rattle.start_value.specs.declared.start.Start.{Start}
use Rattle.table_run.specs.Exits.{IsExit, IsNoExit}
use Rattle.pair_sides.specs.Sides.{program_of_side}
use Rattle.pair_sides.specs.declared.sides.Sided.{Sided}
use Rattle.difference_replay.specs.declared.probes.Half.{Half}
use Rattle.difference_replay.specs.declared.probes.Probe.{Probe}
use Rattle.difference_replay.specs.declared.sides.Entered.{Entered}
use Rattle.difference_replay.specs.Sides.{start_of_side, IsEntered, IsLeft}
use Rattle.std.specs.Global.{Vec}

-- ---- exits

pub exit_is : (p : Program) (start : runs.Start) (n : ℕ) (s : State) → IsExit p start n s → exit_at p start n ≡ Some s
exit_is p start n s e = ap (exit_of_run p start) e.before ∙ ap exit_by_step e.leaves

pub no_exit_is : (p : Program) (start : runs.Start) (n : ℕ) → IsNoExit p start n → exit_at p start n ≡ None
no_exit_is p start n none = by (run p (n + 1) start n) refl
  where
    by_step : (st : Step) → ((s : State) → st ≡ Exits s → ⊥) → exit_by_step st ≡ None
    by_step (Exits s) never = absurd (never s refl)
    by_step (Stops e) never = refl
    by_step (Arrives c) never = refl

    by : (r : Run) → run p (n + 1) start n ≡ r → exit_of_run p start r ≡ None
    by (Going turns m c) is = by_step (step p start.state c (start.choices m)) (λ s e. none turns m c s is e)
    by (Exited at m) is = refl
    by (Failed e at m) is = refl
    by (Turned at m) is = refl

-- ---- the machine of a side

module _ (Q : Program → texts.Layout → Type 0) where
  moved : (m n : Program) (f g : texts.Layout) → m ≡ n → f ≡ g → Q m f → Q n g
  moved m n f g e k h = subst (λ x. Q x g) e (subst (λ y. Q m y) k h)

module _ (side : Sided) (start : Start) (here : Program) (f : texts.Layout) (e : here ≡ program_of_side side) (k : layout_of side.layout ≡ f) where
  abbrev begins : Program → texts.Layout → runs.Start
  begins p g = start_in p g (written_of start)

  back : (Q : Program → texts.Layout → Type 0) → Q here f → Q (program_of_side side) (layout_of side.layout)
  back Q h = moved Q here (program_of_side side) f (layout_of side.layout) e (sym k) h

  -- what its start is on the machine
  pub written_here : IsWritten (layout_of side.layout) (is_known_at (program_of_side side)) (written_of start) → IsWritten f (is_known_at here) (written_of start)
  written_here h =
      subst (λ (g : texts.Layout). IsWritten g (is_known_at here) (written_of start)) k
      (subst (λ (p : Program). IsWritten (layout_of side.layout) (is_known_at p) (written_of start)) (sym e) h)

  pub entered_by : (half : Half) (probes : List Probe) (r : Entered) → IsEntered half here (begins here f).state probes r →
      IsEntered half (program_of_side side) (start_of_side side start).state probes r
  entered_by half probes r h = back (λ p g. IsEntered half p (begins p g).state probes r) h

  pub ended_by : (n : ℕ) (x : Found) → x ≡ found_in here (begins here f) n → x ≡ found_in (program_of_side side) (start_of_side side start) n
  ended_by n x h = back (λ p g. x ≡ found_in p (begins p g) n) h

  pub left_by : (half : Half) (n : ℕ) (probes : List Probe) (r : Option (Vec ℕ)) → IsLeft half here (begins here f) n probes r →
      IsLeft half (program_of_side side) (start_of_side side start) n probes r
  left_by half n probes r h = back (λ p g. IsLeft half p (begins p g) n probes r) h
