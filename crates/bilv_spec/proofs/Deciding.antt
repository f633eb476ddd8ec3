-- The questions are about all runs, and decide the verdict.
use Rattle.std.proofs.Common.{◌≡◌, inl, inr, ℕ, zero, suc, ◌+◌, ◌-◌, ◌<◌, refl, ap, sym, ◌∙◌, subst, arith, Bool, true, false}
use Rattle.std.specs.Prelude.{◌↔◌, if◌then◌else◌, nat_lt}
use Rattle.std.proofs.lemmas.Bool.Decides.{nat_tests}
use Rattle.bilv_spec.specs.Run.{Program, Run, Going, Exited, Failed, Turned, Place, run, IsOver}
use Rattle.machine_spec.specs.Endings.{Start}
use Rattle.bilv_spec.specs.Points.{Point}
use Rattle.bilv_spec.specs.Verdict.{Verdict, Holds, Vacuous, Fails, Unroll, IsEntryState, IsStart, IsRight, RunExits, RunFails, RunTurns}
use Rattle.bilv_spec.specs.Questions.{Reading, by_file, point_of, read_run, IsSatisfiable}
use Rattle.call_spec.specs.Calls.{Question, EntryQuestion, FailQuestion, TurnQuestion}
use Rattle.bilv_spec.specs.QuestionLaws.{Follows, StartEndsBy, HasRun, IsDecided}
use Rattle.bilv_spec.specs.PointLaws.{HasLawfulRows, ReadsMemory, ComesBefore}
use Rattle.bilv_spec.proofs.Pigeons.{truth}
use Rattle.bilv_spec.proofs.Over.{over_stays}
use Rattle.bilv_spec.proofs.One.{exit_not_fail, exit_not_turn}
use Rattle.bilv_spec.proofs.PointOrder.{runs_rise}
use Rattle.bilv_spec.proofs.PointTests.{same_point, same_point_is, same_point_self}
use Rattle.bilv_spec.proofs.ReadingRuns.{Numbered, numbered, start_of, follows, ends_to, ends_from, next_choice}
use Rattle.bilv_spec.proofs.FileWords.{runs_by_file}
use Rattle.bilv_spec.proofs.Ends.{runs_end}

not_before_itself : (x y : Point) → x ≡ y → ComesBefore x y → ⊥
not_before_itself x y e (inl h) = let t : x.turns ≡ y.turns = ap (λ z. z.turns) e in absurd (omega arith)
not_before_itself x y e (inr h) = let t : x.at ≡ y.at = ap (λ z. z.at) e in let l = h.1 in absurd (omega arith)

-- the choices of a start by the points that its run meets
module _ (p : Program) (k : ℕ) (start : Start) where
  abbrev if_met : Run → Point → ℕ → ℕ
  if_met (Going turns n c) q else_choice = if same_point (point_of turns c) q then start.choices n else else_choice
  if_met (Exited at n) q else_choice = else_choice
  if_met (Failed e at n) q else_choice = else_choice
  if_met (Turned at n) q else_choice = else_choice

  -- the choice that the run takes at a point, if it meets it in its first steps
  choice_at : ℕ → Point → ℕ
  choice_at zero q = 0
  choice_at (suc n) q = if_met (run p k start n) q (choice_at n q)

  test_small : (b : Bool) (x y : ℕ) → x < 4 → y < 4 → (if b then x else y) < 4
  test_small true x y h g = h
  test_small false x y h g = g

  small_by : ((i : ℕ) → start.choices i < 4) → (r : Run) (q : Point) (c : ℕ) → c < 4 → if_met r q c < 4
  small_by s (Going turns n c) q d h = test_small (same_point (point_of turns c) q) (start.choices n) d (s n) h
  small_by s (Exited at n) q d h = h
  small_by s (Failed e at n) q d h = h
  small_by s (Turned at n) q d h = h

  small : ((i : ℕ) → start.choices i < 4) → (n : ℕ) (q : Point) → choice_at n q < 4
  unfolding choice_at
  small s zero q = omega arith
  small s (suc n) q = small_by s (run p k start n) q (choice_at n q) (small s n q)

  met_now : (n turns m : ℕ) (c : Place) (d : ℕ) → run p k start n ≡ Going turns m c → m ≡ n → if_met (run p k start n) (point_of turns c) d ≡ start.choices n
  met_now n turns m c d e f =
      ap (λ z. if_met z (point_of turns c) d) e ∙ ap (λ z. if z then start.choices m else d) (same_point_self (point_of turns c)) ∙ ap start.choices f

  not_met : (r : Run) (q : Point) (d : ℕ) → ((turns m : ℕ) (c : Place) → r ≡ Going turns m c → point_of turns c ≡ q → ⊥) → if_met r q d ≡ d
  not_met (Going turns n c) q d h = elim (truth (same_point (point_of turns c) q)) [
    | inl t ↦ absurd (h turns n c refl (same_point_is (point_of turns c) q t))
    | inr f ↦ ap (λ z. if z then start.choices n else d) f
  ]
  not_met (Exited at n) q d h = refl
  not_met (Failed e at n) q d h = refl
  not_met (Turned at n) q d h = refl

  chosen : (most n turns m : ℕ) (c : Place) → n < most → run p k start n ≡ Going turns m c → choice_at most (point_of turns c) ≡ start.choices n
  unfolding choice_at
  chosen zero n turns m c h e = absurd (omega arith)
  chosen (suc most) n turns m c h e = elim (truth (nat_lt n most)) [
    | inl t ↦ (let l : n < most = grind (arith, nat_tests) in
        not_met (run p k start most) (point_of turns c) (choice_at most (point_of turns c))
        (λ later o d f same. not_before_itself (point_of turns c) (point_of later d) (sym same) (runs_rise p k start n most l turns m later o c d e f))
        ∙ chosen most n turns m c l e)
    | inr f ↦ (let s : most ≡ n = grind (arith, nat_tests) in
        let at : m ≡ n = subst (Numbered n) e (numbered p k start n) in
        ap (λ z. if_met (run p k start z) (point_of turns c) (choice_at most (point_of turns c))) s ∙ met_now n turns m c
        (choice_at most (point_of turns c)) e at)
  ]

  not_going : (r : Run) (turns m : ℕ) (c : Place) → IsOver r → r ≡ Going turns m c → ⊥
  not_going r turns m c o e = subst IsOver e o

-- the reading of a start whose run is over after some steps
abbrev reading_of : Program → ℕ → Start → ℕ → Reading
reading_of p k start steps = record { state = start.state; choice = choice_at (by_file p) k start steps }

reading_follows : (p : Program) (k : ℕ) (start : Start) (steps : ℕ) → IsOver (run (by_file p) k start steps) → Follows p k (reading_of p k start steps) start
reading_follows p k start steps over = record {
  state = refl;
  choices = λ n turns c e. elim (truth (nat_lt n steps)) [
    | inl t ↦ sym (chosen (by_file p) k start steps n turns n c (grind (arith, nat_tests)) e)
    | inr f ↦ (let l : n - steps + steps ≡ n = grind (arith, nat_tests) in
        absurd (not_going (by_file p) k start (run (by_file p) k start steps) turns n c over
        (sym (over_stays (by_file p) k start steps (n - steps) (run (by_file p) k start steps) over refl) ∙ ap (run (by_file p) k start) l ∙ e)))
  ];
}

module _ (p : Program) (lawful : HasLawfulRows p) (memory : ReadsMemory p) (k : ℕ) where
  same : (start : Start) → IsEntryState p start.state → (n : ℕ) → run p k start n ≡ run (by_file p) k start n
  same start is n = runs_by_file p lawful memory k start is n

  small_next : (r : Reading) → ((q : Point) → r.choice q < 4) → (x : Run) → next_choice p k r x < 4
  small_next r h (Going turns n c) = h (point_of turns c)
  small_next r h (Exited at n) = omega arith
  small_next r h (Failed e at n) = omega arith
  small_next r h (Turned at n) = omega arith

  -- a reading's start
  its_start : (r : Reading) → ((q : Point) → r.choice q < 4) → IsEntryState p r.state → IsStart p (start_of p k r)
  its_start r h is = record { entry = is; choices = λ n. small_next r h (read_run p k r n) }

  to_run : (question : Question) → IsSatisfiable p k question → HasRun p k question
  to_run EntryQuestion (r, t) = (r.state, t.entry)
  to_run FailQuestion (r, t) =
      let e = ends_to p k r (start_of p k r) (follows p k r) FailQuestion t.ends in
      (start_of p k r, its_start r t.choice t.entry, (e.0, e.1, e.2, e.3, same (start_of p k r) t.entry e.0 ∙ e.4))
  to_run TurnQuestion (r, t) =
      let e = ends_to p k r (start_of p k r) (follows p k r) TurnQuestion t.ends in
      (start_of p k r, its_start r t.choice t.entry, (e.0, e.1, e.2, same (start_of p k r) t.entry e.0 ∙ e.3))

  its_reading : (start : Start) → IsStart p start → (question : Question) (steps : ℕ) → IsOver (run (by_file p) k start steps) →
      StartEndsBy p k start question →
      IsSatisfiable p k question
  its_reading start is question steps over ends = (
    reading_of p k start steps,
    record {
      choice = small (by_file p) k start is.choices steps;
      entry = is.entry;
      ends = ends_from p k (reading_of p k start steps) start (reading_follows p k start steps over) question ends;
    },
  )

  from_run : (question : Question) → HasRun p k question → IsSatisfiable p k question
  from_run EntryQuestion (s, is) = (record { state = s; choice = λ q. 0 }, record { choice = λ q. omega arith; entry = is; ends = tt })
  from_run FailQuestion (start, is, (n, at, m, e, h)) =
      let by = sym (same start is.entry n) ∙ h in
      its_reading start is FailQuestion n (subst IsOver (sym by) tt) (n, at, m, e, by)
  from_run TurnQuestion (start, is, (n, at, m, h)) =
      let by = sym (same start is.entry n) ∙ h in
      its_reading start is TurnQuestion n (subst IsOver (sym by) tt) (n, at, m, by)

  pub of_runs : (question : Question) → IsSatisfiable p k question ↔ HasRun p k question
  of_runs question = (to_run question, from_run question)

  exits_by : (start : Start) (n : ℕ) (x : Run) → run p k start n ≡ x → IsOver x → ¬ RunFails p k start → ¬ RunTurns p k start → RunExits p k start
  exits_by start n (Going turns m c) e o f t = absurd o
  exits_by start n (Exited at m) e o f t = (n, at, m, e)
  exits_by start n (Failed v at m) e o f t = absurd (f (n, at, m, v, e))
  exits_by start n (Turned at m) e o f t = absurd (t (n, at, m, e))

  exits : (start : Start) → IsStart p start → ¬ IsSatisfiable p k FailQuestion → ¬ IsSatisfiable p k TurnQuestion → RunExits p k start
  exits start is f t =
      let o = runs_end p lawful memory k start is.entry in
      exits_by start o.0 (run p k start o.0) refl o.1 (λ h. f (from_run FailQuestion (start, is, h))) (λ h. t (from_run TurnQuestion (start, is, h)))

  right_if : (v : Verdict) → IsDecided p k v → IsRight p k v
  right_if Vacuous d = λ s is. d (from_run EntryQuestion (s, is))
  right_if Fails d = to_run FailQuestion d
  right_if Unroll d = (λ start is h. d.0 (from_run FailQuestion (start, is, h)), to_run TurnQuestion d.1)
  right_if Holds d = (to_run EntryQuestion d.0, λ start is. exits start is d.1 d.2)

  only_if : (v : Verdict) → IsRight p k v → IsDecided p k v
  only_if Vacuous r = λ d. let h = to_run EntryQuestion d in r h.0 h.1
  only_if Fails r = from_run FailQuestion r
  only_if Unroll r = (λ d. (let h = to_run FailQuestion d in r.0 h.0 h.1 h.2), from_run TurnQuestion r.1)
  only_if Holds r = (
    from_run EntryQuestion r.0,
    (λ d. (let h = to_run FailQuestion d in exit_not_fail p k h.0 (r.1 h.0 h.1) h.2)),
    (λ d. (let h = to_run TurnQuestion d in exit_not_turn p k h.0 (r.1 h.0 h.1) h.2)),
  )

  pub decide : (v : Verdict) → IsDecided p k v ↔ IsRight p k v
  decide v = (right_if v, only_if v)

pub questions_are_of_runs : (p : Program) → HasLawfulRows p → ReadsMemory p → (k : ℕ) (question : Question) → IsSatisfiable p k question ↔ HasRun p k question
questions_are_of_runs p lawful memory k question = of_runs p lawful memory k question

pub questions_decide : (p : Program) → HasLawfulRows p → ReadsMemory p → (k : ℕ) (v : Verdict) → IsDecided p k v ↔ IsRight p k v
questions_decide p lawful memory k v = decide p lawful memory k v
