-- What the run from a start of a side comes to on its machine: it exits by a step, in a state that is found.
use Rattle.std.proofs.Common.{◌≡◌, ℕ, ◌+◌, ◌-◌, ◌^◌, ◌<◌, arith, Some}
use Rattle.word_spec.specs.State.{State}
use Rattle.bilv_spec.specs.Answers.{IsWithin, start_in}
use Rattle.bilv_spec.specs.PointLaws.{HasLawfulRows, ReadsMemory}
use Rattle.bilv_spec.specs.Reports.{found}
use Rattle.bilv_spec.specs.Run.{Program}
use Rattle.bilv_spec.specs.Verdict as verdicts
use Rattle.bilv_spec.specs.Verdict.{IsRight, IsStart}
use Rattle.machine_spec.specs.Endings as runs
use Rattle.machine_spec.specs.StateText as texts
use Rattle.pair_sides.specs.Sides.{IsSided, program_of_side}
use Rattle.pair_sides.specs.declared.sides.Sided.{Sided}
use Rattle.pair_spec.specs.Pairs.{ExitsIn}
use Rattle.start_value.specs.Starts.{layout_of, written_of}
use Rattle.start_value.specs.declared.start.Start.{Start}
use Rattle.table_run.specs.Endings.{found_of}
use Rattle.table_run.specs.Exits.{IsExit, IsNoExit}
use Rattle.table_run.specs.declared.ending.Ending.{Ending}
use Rattle.table_run.specs.declared.ending.Ending.TheVariants as ending
use Rattle.verdict.specs.Verdicts.{budget_of}
use Rattle.call_form.specs.declared.budget.Budget.{Budget}
use Rattle.pair_verdict.proofs.ExitSteps as steps
use Rattle.pair_verdict.proofs.LawfulSides.{side_reads, side_rows}
use Rattle.pair_verdict.proofs.MachineOfSide.{to_side}

module _ (s : Sided) (here : Program) (form : texts.Layout) (is_here : here ≡ program_of_side s) (is_form : layout_of s.layout ≡ form) (sided : IsSided s)
    (start : Start) where
  abbrev begins : Program → texts.Layout → runs.Start
  begins p f = start_in p f (written_of start)

  abbrev side_start : runs.Start
  side_start = begins (program_of_side s) (layout_of s.layout)

  module _ (b : Budget) (within : IsWithin (program_of_side s) (budget_of b))
      (holds : IsRight (program_of_side s) b.unroll verdicts.Holds) (is : IsStart (program_of_side s) side_start) (e : Ending)
      (ends : found_of e ≡ found here (Some b.unroll) (begins here form) (b.points - 1)) where
    lawful_rows : HasLawfulRows (program_of_side s)
    lawful_rows = side_rows s sided

    memory : ReadsMemory (program_of_side s)
    memory = side_reads s

    finds : found_of e ≡ found (program_of_side s) (Some b.unroll) side_start (b.points - 1)
    finds =
        to_side s here form is_here is_form
        (λ (p : Program) (f : texts.Layout). found_of e ≡ found p (Some b.unroll) (begins p f) (b.points - 1)) ends

    pub ends_by_exit : ((at n : ℕ) → e ≡ ending.Exit at n → ⊥) → ⊥
    ends_by_exit none =
        steps.never_other (program_of_side s) lawful_rows memory (budget_of b) within b.in_range.points.0 holds side_start is e finds none

    pub exit_exits : (at n : ℕ) → e ≡ ending.Exit at n → (a : ℕ) × (t : State) × ExitsIn (program_of_side s) b.unroll side_start a n t
    exit_exits at n same =
        steps.exits_so (program_of_side s) lawful_rows memory (budget_of b) within b.in_range.points.0 holds side_start is e finds at n same

    pub exit_early : (at n : ℕ) → e ≡ ending.Exit at n → n + 1 < 2 ^ 64
    exit_early at n same =
        let few = steps.few_steps (program_of_side s) lawful_rows memory (budget_of b) within b.in_range.points.0 holds side_start is e finds at n same in
        let most = b.in_range.points.1 in
        omega (arith, few, most)

  -- and the state in which it exits
  module _ (k n : ℕ) (out : (a : ℕ) × (t : State) × ExitsIn (program_of_side s) k side_start a n t) where
    pub found_out : (t : State) → IsExit here (begins here form) n t → (a : ℕ) × ExitsIn (program_of_side s) k side_start a n t
    found_out t is = (
      out.0,
      steps.exits_found (program_of_side s) k side_start out.0 n out.1 out.2 t
          (to_side s here form is_here is_form (λ (p : Program) (f : texts.Layout). IsExit p (begins p f) n t) is),
    )

    pub is_found : IsNoExit here (begins here form) n → ⊥
    is_found none =
        steps.never_none (program_of_side s) k side_start out.0 n out.1 out.2
        (to_side s here form is_here is_form (λ (p : Program) (f : texts.Layout). IsNoExit p (begins p f) n) none)
