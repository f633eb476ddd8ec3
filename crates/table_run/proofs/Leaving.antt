-- Whether a run exits by a step.
use Rattle.std.proofs.Common.{◌≡◌, ℕ, suc, ◌+◌, ◌-◌, ◌≤◌, ◌<◌, inl, inr, sym, ap, ◌∙◌, subst, arith}
use Rattle.std.specs.Prelude.{nat_le}
use Rattle.word_spec.specs.State.{State}
use Rattle.bilv_spec.specs.Run.{Program, Place, Step, Stops, Arrives, Exits, Run, Going, Exited, Failed, Turned, IsOver, run, after_step, arrive, step}
use Rattle.machine_spec.specs.Endings.{Start, Event}
use Rattle.bilv_spec.proofs.Decided.{Decided, is_less}
use Rattle.bilv_spec.proofs.Over.{over_stays}
use Rattle.table_run.specs.Exits.{IsExit, IsNoExit}
use Rattle.table_run.proofs.Founds.{next, arrived}

-- a step that exits in no state
abbrev IsNoExits : Step → Type 0
IsNoExits (Exits s) = ⊥
IsNoExits (Stops e) = Unit {0}
IsNoExits (Arrives c) = Unit {0}

module _ (p : Program) (s : Start) (number turns n choice at : ℕ) (c : Place) (drawn : choice ≡ s.choices n) (here : at ≡ c.state.pc)
    (going : run p (number + 1) s n ≡ Going turns n c) where
  abbrev k : ℕ
  k = number + 1

  -- the step is the named one
  module _ (same : n ≡ number) where
    stands : run p k s number ≡ Going turns n c
    stands = subst (λ m. run p k s m ≡ Going turns n c) same going

    pub exits : (t : State) → step p s.state c choice ≡ Exits t → IsExit p s number t
    exits t is = record {
      turns = turns;
      place = c;
      before = stands ∙ ap (λ m. Going turns m c) same;
      leaves = ap (step p s.state c) (ap s.choices (sym same) ∙ sym drawn) ∙ is;
    }

    pub no_exit_here : (e : Step) → IsNoExits e → step p s.state c choice ≡ e → IsNoExit p s number
    no_exit_here e other is others m place x before leaves =
        let goes : Going turns n c ≡ Going others m place = sym stands ∙ before in
        let place_is : c ≡ place = cc in
        let number_is : n ≡ m = cc in
        subst IsNoExits (sym is ∙ (ap (step p s.state c) (drawn ∙ ap s.choices number_is) ∙ (ap (λ d. step p s.state d (s.choices m)) place_is ∙ leaves))) other

  -- the run is over before it
  pub over : n < number → (r : Run) → IsOver r → after_step k turns n c.state.pc (step p s.state c choice) ≡ r → IsNoExit p s number
  over below r ends is others m place x before leaves =
      let there : (number - suc n) + suc n ≡ number = omega (arith, below) in
      let stays : run p k s number ≡ r =
      subst (λ j. run p k s j ≡ r) there (over_stays p k s (suc n) (number - suc n) r ends (next p k s turns n number choice at c drawn here going r is)) in
      subst IsOver (sym stays ∙ before) ends

  pub stops : n ≤ number → (e : Event) → step p s.state c choice ≡ Stops e → IsNoExit p s number
  stops le e is = by (is_less n number)
    where
      by : Decided (n < number) → IsNoExit p s number
      by (inl below) = over below (Failed e c.state.pc n) tt (ap (after_step k turns n c.state.pc) is)
      by (inr other) = no_exit_here (let same : n ≡ number = grind (arith, le, other) in same) (Stops e) tt is

  pub exits_before : n < number → (t : State) → step p s.state c choice ≡ Exits t → IsNoExit p s number
  exits_before below t is = over below (Exited c.state.pc n) tt (ap (after_step k turns n c.state.pc) is)

  pub turns_before : n < number → (d : Place) (to : ℕ) → to ≡ d.state.pc → step p s.state c choice ≡ Arrives d →
      arrive (nat_le to at) k turns n at d ≡ Turned at n → IsNoExit p s number
  turns_before below d to there is h =
      over below (Turned at n) tt (arrived p k s turns n number choice at c drawn here going d to there is (Turned at n) h)
