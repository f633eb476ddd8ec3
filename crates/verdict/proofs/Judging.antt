-- The answers to the three questions give the right report.
use Rattle.std.proofs.Common.{◌≡◌, sym, ap, subst, ◌∙◌, ℕ, ◌-◌, ◌<◌, ◌≤◌, Bool, true, false, List, [], ◌∷◌, Some, arith}
use Rattle.std.specs.Prelude.{◌==◌, if◌then◌else◌, Contains}
use Rattle.std.proofs.lemmas.List.Elements.{All-contains, Contains-append_left, Contains-append_right, Contains-push}
use Rattle.word_spec.specs.Memory.{byte_in}
use Rattle.word_spec.specs.State.{State, Written}
use Rattle.bilv_spec.specs.Run.{Program, Run, Failed, Turned}
use Rattle.machine_spec.specs.Endings.{Event}
use Rattle.bilv_spec.specs.Reports.{Found, FoundEvent, FoundTurn, found, found_going}
use Rattle.machine_spec.specs.StateText.{Layout, IsWritten, last_step}
use Rattle.bilv_spec.specs.Points.{is_known_at}
use Rattle.bilv_spec.specs.PointLaws.{HasLawfulRows, ReadsMemory}
use Rattle.bilv_spec.specs.Verdict.{Holds, Vacuous, Unroll, IsEntryState, IsStart, RunFails, RunTurns}
use Rattle.call_spec.specs.Calls.{Question, EntryQuestion, FailQuestion, TurnQuestion, Budget, Refutations, EntryRefuted, RunOf, SpentOn}
use Rattle.bilv_spec.specs.Questions.{IsSatisfiable}
use Rattle.clause_spec.specs.Refutation.{Proof}
use Rattle.bilv_spec.specs.Evidence.{Refutes, Spends}
use Rattle.bilv_spec.specs.Answers.{IsWithin, HoldsReport, VacuousReport, FailsReport, UnrollReport, ConflictsReport, IsRightReport, EndsAs, start_in}
use Rattle.bilv_spec.proofs.Deciding.{questions_are_of_runs, questions_decide}
use Rattle.bilv_spec.proofs.Over.{one_end}
use Rattle.bilv_spec.proofs.RefutedQuestions.{refuted_is_false}
use Rattle.walk_laws.proofs.RunEnds.{few_points_are_found}

-- what written choices give is a choice
choice_if : (b : Bool) (m n : ℕ) → m < 4 → n < 4 → (if b then m else n) < 4
choice_if true m n p q = p
choice_if false m n p q = q

choices_small : (cs : List (ℕ × ℕ)) (i : ℕ) → ((c : ℕ × ℕ) → Contains cs c → c.1 < 4) → byte_in cs i < 4
choices_small [] i h = omega arith
choices_small (c ∷ cs) i h =
    choice_if (i == c.0) c.1 (byte_in cs i) (h c (Contains-append_left (c ∷ []) cs c (Contains-push [] c)))
    (choices_small cs i (λ d has. h d (Contains-append_right (c ∷ []) cs d has)))

pub written_choice : (layout : Layout) (known : ℕ → Bool) (w : Written) → IsWritten layout known w → (i : ℕ) → byte_in w.choices i < 4
written_choice layout known w h i = choices_small w.choices i (λ c has. let q = All-contains (λ (d : ℕ × ℕ). (d.0 ≤ last_step) × (1 ≤ d.1) ×
    (d.1 ≤ 3)) w.choices c h.choices has in omega (arith, q.2))

-- a run that has been found to end
found_fails : (r : Run) (e : Event) (at n : ℕ) → r ≡ Failed e at n → found_going r ≡ FoundEvent e at n
found_fails r e at n is = ap found_going is

found_turns : (r : Run) (at n : ℕ) → r ≡ Turned at n → found_going r ≡ FoundTurn at n
found_turns r at n is = ap found_going is

event_same : (d e : Event) (a m at n : ℕ) → FoundEvent d a m ≡ FoundEvent e at n → Failed d a m ≡ Failed e at n
event_same d e a m at n h = cc

turn_same : (a m at n : ℕ) → FoundTurn a m ≡ FoundTurn at n → Turned a m ≡ Turned at n
turn_same a m at n h = cc

module _ (p : Program) (lawful : HasLawfulRows p) (reads : ReadsMemory p) (layout : Layout) (b : Budget) (within : IsWithin p b) (some : 1 ≤ b.points) where
  -- there is no entry state
  pub vacuous : (proof : Proof) → Refutes p b.unroll EntryQuestion proof → IsRightReport p layout b VacuousReport (EntryRefuted proof)
  vacuous proof h = (within, (questions_decide p lawful reads b.unroll Vacuous).0 (refuted_is_false p b.unroll EntryQuestion proof h), h)

  module _ (w : Written) (written : IsWritten layout (is_known_at p) w) where
    -- what is found of its run within as many steps as there may be points
    abbrev here : Found
    here = found p (Some b.unroll) (start_in p layout w) (b.points - 1)

    finds_event : IsStart p (start_in p layout w) → RunFails p b.unroll (start_in p layout w) →
        (e : Event) × (at : ℕ) × (n : ℕ) × (here ≡ FoundEvent e at n) × EndsAs p b.unroll (start_in p layout w) (Failed e at n)
    finds_event is f =
        let r = few_points_are_found p lawful reads b.unroll (start_in p layout w) is.entry b.points some within.points in
        let same = one_end p b.unroll (start_in p layout w) r.2.0 f.0 r.0 (Failed f.3 f.1 f.2) r.1 tt r.2.1 f.4 in
        (f.3, f.1, f.2, r.3 ∙ found_fails r.0 f.3 f.1 f.2 same, (f.0, f.4))

    finds_turn : IsStart p (start_in p layout w) → RunTurns p b.unroll (start_in p layout w) →
        (at : ℕ) × (n : ℕ) × (here ≡ FoundTurn at n) × EndsAs p b.unroll (start_in p layout w) (Turned at n)
    finds_turn is f =
        let r = few_points_are_found p lawful reads b.unroll (start_in p layout w) is.entry b.points some within.points in
        let same = one_end p b.unroll (start_in p layout w) r.2.0 f.0 r.0 (Turned f.1 f.2) r.1 tt r.2.1 f.3 in
        (f.1, f.2, r.3 ∙ found_turns r.0 f.1 f.2 same, (f.0, f.3))

    -- some run fails
    pub fails_report : IsStart p (start_in p layout w) → RunFails p b.unroll (start_in p layout w) → (e : Event) (at n : ℕ) → here ≡ FoundEvent e at n →
        IsRightReport p layout b (FailsReport e at n) (RunOf w)
    fails_report start failing e at n is =
        let f = finds_event start failing in
        let same = event_same f.0 e f.1 f.2 at n (sym f.3 ∙ is) in (
          within,
          (start_in p layout w, start, failing),
          written,
          start,
          subst (λ (r : Run). EndsAs p b.unroll (start_in p layout w) r) same f.4,
        )

    pub no_other_event : IsStart p (start_in p layout w) → RunFails p b.unroll (start_in p layout w) → (f : Found) → here ≡ f →
        ((e : Event) (at n : ℕ) → f ≡ FoundEvent e at n → ⊥) → ⊥
    no_other_event start failing f is none = let g = finds_event start failing in none g.0 g.1 g.2 (sym is ∙ g.3)

    -- no run fails, and some run makes one backward transfer too many
    pub turns_report : (IsSatisfiable p b.unroll FailQuestion → ⊥) → IsStart p (start_in p layout w) → RunTurns p b.unroll (start_in p layout w) →
        (at n : ℕ) → here ≡ FoundTurn at n → IsRightReport p layout b (UnrollReport at n) (RunOf w)
    turns_report never start turning at n is =
        let f = finds_turn start turning in
        let same = turn_same f.0 f.1 at n (sym f.2 ∙ is) in (
          within,
          (questions_decide p lawful reads b.unroll Unroll).0 (
            never,
            (questions_are_of_runs p lawful reads b.unroll TurnQuestion).1 (start_in p layout w, start, turning),
          ),
          written,
          start,
          subst (λ (r : Run). EndsAs p b.unroll (start_in p layout w) r) same f.3,
        )

    pub no_other_turn : IsStart p (start_in p layout w) → RunTurns p b.unroll (start_in p layout w) → (f : Found) → here ≡ f →
        ((at n : ℕ) → f ≡ FoundTurn at n → ⊥) → ⊥
    no_other_turn start turning f is none = let g = finds_turn start turning in none g.0 g.1 (sym is ∙ g.2)

    -- all runs return without an event
    pub holds : IsEntryState p (start_in p layout w).state → (fail turn : Proof) → Refutes p b.unroll FailQuestion fail →
        Refutes p b.unroll TurnQuestion turn → IsRightReport p layout b HoldsReport (Refutations w fail turn)
    holds entry fail turn f t = (
      within,
      (questions_decide p lawful reads b.unroll Holds).0 (
        (questions_are_of_runs p lawful reads b.unroll EntryQuestion).1 ((start_in p layout w).state, entry),
        refuted_is_false p b.unroll FailQuestion fail f,
        refuted_is_false p b.unroll TurnQuestion turn t,
      ),
      written,
      entry,
      f,
      t,
    )

    -- the conflicts are spent on the fail question
    pub spent_on_fail : IsEntryState p (start_in p layout w).state → (proof : Proof) → Spends p b.unroll FailQuestion b.conflicts proof →
        IsRightReport p layout b ConflictsReport (SpentOn FailQuestion proof)
    spent_on_fail entry proof s = (within, ((start_in p layout w).state, entry), s)

    -- and on the turn question
    pub spent_on_turn : IsEntryState p (start_in p layout w).state → (fail : Proof) → Refutes p b.unroll FailQuestion fail → (proof : Proof) →
        Spends p b.unroll TurnQuestion b.conflicts proof → IsRightReport p layout b ConflictsReport (SpentOn TurnQuestion proof)
    spent_on_turn entry fail f proof s = (
      within,
      (
        ((start_in p layout w).state, entry),
        λ start is fails. refuted_is_false p b.unroll FailQuestion fail f ((questions_are_of_runs p lawful reads b.unroll FailQuestion).1 (start, is, fails)),
      ),
      s,
    )

  -- and on the entry question
  pub spent_on_entry : (proof : Proof) → Spends p b.unroll EntryQuestion b.conflicts proof →
      IsRightReport p layout b ConflictsReport (SpentOn EntryQuestion proof)
  spent_on_entry proof s = (within, tt, s)
