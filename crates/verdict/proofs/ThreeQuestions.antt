-- What the answers to the three questions of a program within the budgets come to.
use Rattle.std.proofs.Common.{◌≡◌, ◌≤◌}
use Rattle.bilv_spec.specs.Answers.{IsWithin}
use Rattle.bilv_spec.specs.PointLaws.{ReadsMemory}
use Rattle.call_spec.specs.Calls.{Question, EntryQuestion, FailQuestion, TurnQuestion}
use Rattle.bilv_spec.specs.Questions.{IsSatisfiable}
use Rattle.bilv_spec.specs.Run.{Program}
use Rattle.machine_spec.specs.StateText.{Layout}
use Rattle.bilv_spec.proofs.RefutedQuestions.{refuted_is_false}
use Rattle.cnf_form.specs.Views.{proof_of}
use Rattle.cnf_form.specs.declared.form.Proof.{Proof}
use Rattle.call_form.specs.declared.kind.Kind.TheVariants as kind
use Rattle.start_value.specs.Starts.{written_of}
use Rattle.start_value.specs.declared.start.Start.{Start}
use Rattle.walk_spec.specs.Unrolled.{UnrolledProgram}
use Rattle.verdict.specs.Grounds.{Answers, IsAnswered, IsGround}
use Rattle.verdict.specs.Verdicts.{IsVerdict, budget_of}
use Rattle.verdict.specs.declared.verdicts.Answered.{Answered}
use Rattle.verdict.specs.declared.verdicts.Answered.TheVariants.{Sat, Refuted, Spent}
use Rattle.call_form.specs.declared.budget.Budget.{Budget}
use Rattle.verdict.specs.declared.verdicts.Verdict.TheVariants.{Holds, Vacuous, Conflicts}
use Rattle.verdict.proofs.Adding.{answered}
use Rattle.verdict.proofs.Judging.{vacuous, holds, spent_on_entry, spent_on_fail, spent_on_turn}

module _ (p : Program) (reads : ReadsMemory p) (layout : Layout) (b : Budget) (within : IsWithin p (budget_of b)) (some : 1 ≤ b.points) (u : UnrolledProgram)
    (ground : IsGround p b.unroll layout u) where
  -- the question came to an answer
  abbrev pub Came : Question → Answered → Type 0
  Came question a = Answers u question b.conflicts a

  -- which is the answer of the program
  pub is_answered : (question : Question) (a c : Answered) → Came question a → a ≡ c → IsAnswered p b.unroll layout question b.conflicts c
  is_answered question a c came is = answered u question b.conflicts a c came is p b.unroll layout reads ground

  pub vacuous_verdict : (a : Answered) (proof : Proof) → Came EntryQuestion a → a ≡ Refuted proof → IsVerdict p layout b (Vacuous proof)
  vacuous_verdict a proof came is =
      vacuous p ground.lawful reads layout (budget_of b) within some (proof_of proof) (is_answered EntryQuestion a (Refuted proof) came is)

  pub spent_on_entry_verdict : (a : Answered) (proof : Proof) → Came EntryQuestion a → a ≡ Spent proof → IsVerdict p layout b (Conflicts kind.Entry proof)
  spent_on_entry_verdict a proof came is =
      spent_on_entry p ground.lawful reads layout (budget_of b) within some (proof_of proof) (is_answered EntryQuestion a (Spent proof) came is)

  -- behind an entry state
  module _ (entry : Answered) (s : Start) (entered : Came EntryQuestion entry) (is_entered : entry ≡ Sat s) where
    pub spent_on_fail_verdict : (a : Answered) (proof : Proof) → Came FailQuestion a → a ≡ Spent proof → IsVerdict p layout b (Conflicts kind.Fail proof)
    spent_on_fail_verdict a proof came is =
        let e = is_answered EntryQuestion entry (Sat s) entered is_entered in
        spent_on_fail p ground.lawful reads layout (budget_of b) within some (written_of s) e.0 e.1 (proof_of proof)
        (is_answered FailQuestion a (Spent proof) came is)

    -- where no run fails
    module _ (fail : Answered) (refuted : Proof) (never : Came FailQuestion fail) (is_never : fail ≡ Refuted refuted) where
      pub none_fails : IsSatisfiable p b.unroll FailQuestion → ⊥
      none_fails = refuted_is_false p b.unroll FailQuestion (proof_of refuted) (is_answered FailQuestion fail (Refuted refuted) never is_never)

      pub spent_on_turn_verdict : (a : Answered) (proof : Proof) → Came TurnQuestion a → a ≡ Spent proof → IsVerdict p layout b (Conflicts kind.Turn proof)
      spent_on_turn_verdict a proof came is =
          let e = is_answered EntryQuestion entry (Sat s) entered is_entered in
          spent_on_turn p ground.lawful reads layout (budget_of b) within some (written_of s) e.0 e.1 (proof_of refuted)
          (is_answered FailQuestion fail (Refuted refuted) never is_never) (proof_of proof) (is_answered TurnQuestion a (Spent proof) came is)

      pub holds_verdict : (a : Answered) (turn : Proof) → Came TurnQuestion a → a ≡ Refuted turn → IsVerdict p layout b (Holds s refuted turn)
      holds_verdict a turn came is =
          let e = is_answered EntryQuestion entry (Sat s) entered is_entered in
          holds p ground.lawful reads layout (budget_of b) within some (written_of s) e.0 e.1
          (proof_of refuted) (proof_of turn)
          (is_answered FailQuestion fail (Refuted refuted) never is_never) (is_answered TurnQuestion a (Refuted turn) came is)
