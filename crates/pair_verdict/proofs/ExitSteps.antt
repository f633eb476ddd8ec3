-- The run from a start of a function that holds exits, by a step and in a state that are found.
use Rattle.std.proofs.Common.{◌≡◌, ℕ, ◌+◌, ◌-◌, ◌<◌, ◌≤◌, refl, sym, ap, subst, ◌∙◌, inl, inr, arith, Some}
use Rattle.std.proofs.lemmas.Bool.{cases_lt}
use Rattle.word_spec.specs.State.{State}
use Rattle.bilv_spec.specs.Answers.{IsWithin}
use Rattle.bilv_spec.specs.PointLaws.{HasLawfulRows, ReadsMemory}
use Rattle.bilv_spec.specs.Reports.{FoundExit, found, found_going}
use Rattle.bilv_spec.specs.Run.{Program, Run, Place, Going, Exited, Exits, IsOver, run, step}
use Rattle.bilv_spec.specs.Verdict as verdicts
use Rattle.bilv_spec.specs.Verdict.{IsRight, IsStart}
use Rattle.bilv_spec.proofs.Over.{one_end, over_stays}
use Rattle.bilv_spec.proofs.SameRuns.{same_run}
use Rattle.call_spec.specs.Calls.{Budget}
use Rattle.machine_spec.specs.Endings.{Start}
use Rattle.pair_spec.specs.Pairs.{ExitsIn}
use Rattle.pair_spec.proofs.ExitStates.{exited_in}
use Rattle.table_run.specs.Endings.{found_of}
use Rattle.table_run.specs.Exits.{IsExit, IsNoExit}
use Rattle.table_run.specs.declared.ending.Ending.{Ending}
use Rattle.table_run.specs.declared.ending.Ending.TheVariants as ending
use Rattle.walk_laws.proofs.RunEnds.{few_points_are_found, few_points_end_runs}

exit_is : (e : Ending) → ((at n : ℕ) → e ≡ ending.Exit at n → ⊥) → (at n : ℕ) → found_of e ≡ FoundExit at n → ⊥
exit_is (ending.Exit a s) none at n h = none a s refl
exit_is (ending.Failed v a s) none at n h = absurd (cc)
exit_is (ending.Turned a s) none at n h = absurd (cc)
exit_is (ending.Left a s) none at n h = absurd (cc)

same_exit : (at n a m : ℕ) → FoundExit at n ≡ FoundExit a m → (at ≡ a) × (n ≡ m)
same_exit at n a m h = (cc, cc)

going_not_over : (turns n : ℕ) (c : Place) (r : Run) → IsOver r → Going turns n c ≡ r → ⊥
going_not_over turns n c r over e = subst IsOver (sym e) over

module _ (p : Program) (lawful : HasLawfulRows p) (memory : ReadsMemory p) (b : Budget) (within : IsWithin p b) (some : 1 ≤ b.points)
    (holds : IsRight p b.unroll verdicts.Holds) (start : Start) (is : IsStart p start) where
  -- what is found of its run
  finds : (at : ℕ) × (n : ℕ) × (found p (Some b.unroll) start (b.points - 1) ≡ FoundExit at n) × (run p b.unroll start b.points ≡ Exited at n)
  finds =
      let r = few_points_are_found p lawful memory b.unroll start is.entry b.points some within.points in
      let e = holds.1 start is in
      let same = one_end p b.unroll start r.2.0 e.0 r.0 (Exited e.1 e.2) r.1 tt r.2.1 e.3 in
      let found_exit = r.3 ∙ ap found_going same in
      let over = few_points_end_runs p lawful memory b.unroll start is.entry b.points within.points in
      (e.1, e.2, found_exit, one_end p b.unroll start b.points e.0 (run p b.unroll start b.points) (Exited e.1 e.2) over tt refl e.3)

  module _ (e : Ending) (found_is : found_of e ≡ found p (Some b.unroll) start (b.points - 1)) where
    pub never_other : ((at n : ℕ) → e ≡ ending.Exit at n → ⊥) → ⊥
    never_other none = exit_is e none finds.0 finds.1 (found_is ∙ finds.2)

    pub exits_so : (at n : ℕ) → e ≡ ending.Exit at n → (a : ℕ) × (s : State) × ExitsIn p b.unroll start a n s
    exits_so at n same =
        let one : FoundExit finds.0 finds.1 ≡ FoundExit at n = sym finds.2 ∙ sym found_is ∙ ap found_of same in
        let parts = same_exit finds.0 finds.1 at n one in
        let s = exited_in p b.unroll start b.points finds.0 finds.1 finds.3 in
        (finds.0, s.0, subst (λ (z : ℕ). ExitsIn p b.unroll start finds.0 z s.0) parts.1 s.1)

    pub few_steps : (at n : ℕ) → e ≡ ending.Exit at n → n < b.points
    few_steps at n same = elim (cases_lt n b.points) [
      | inl less ↦ less
      | inr most ↦ (let x = exits_so at n same in
          let back : n - b.points + b.points ≡ n = omega (arith, most) in
          let stays = over_stays p b.unroll start b.points (n - b.points) (Exited finds.0 finds.1) tt finds.3 in
          absurd (going_not_over x.2.turns n x.2.place (Exited finds.0 finds.1) tt (sym x.2.before ∙ ap (run p b.unroll start) (sym back) ∙ stays)))
    ]

-- the state in which a run exits is that which is found under another bound
module _ (p : Program) (k : ℕ) (start : Start) (at n : ℕ) (t : State) (exits : ExitsIn p k start at n t) where
  other_bound : run p (n + 1) start n ≡ Going exits.turns n exits.place
  other_bound = (same_run p start k (n + 1) n (omega arith) exits.turns n exits.place exits.before).2

  pub never_none : IsNoExit p start n → ⊥
  never_none none = none exits.turns n exits.place t other_bound exits.leaves

  pub exits_found : (s : State) → IsExit p start n s → ExitsIn p k start at n s
  exits_found s is =
      let same : Going is.turns n is.place ≡ Going exits.turns n exits.place = sym is.before ∙ other_bound in
      let place : is.place ≡ exits.place = cc in
      let left : step p start.state exits.place (start.choices n) ≡ Exits s = ap (λ c. step p start.state c (start.choices n)) (sym place) ∙ is.leaves in
      record { turns = exits.turns; place = exits.place; before = exits.before; at_is = exits.at_is; leaves = left }
