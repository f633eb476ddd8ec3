-- What the answer to a question within the budgets certifies.
use Rattle.std.proofs.Common.{◌≡◌, subst, ℕ}
use Rattle.call_spec.specs.Calls.{Budget, Question, EntryQuestion, FailQuestion, TurnQuestion}
use Rattle.bilv_spec.specs.Answers.{IsWithin}
use Rattle.bilv_spec.specs.PointLaws.{HasLawfulRows, ReadsMemory}
use Rattle.bilv_spec.specs.Run.{Program}
use Rattle.machine_spec.specs.StateText.{Layout}
use Rattle.bilv_spec.proofs.RefutedQuestions.{refuted_is_false}
use Rattle.cnf_form.specs.Views.{proof_of}
use Rattle.cnf_form.specs.declared.form.Proof.{Proof}
use Rattle.start_value.specs.declared.start.Start as declared
use Rattle.machine_spec.specs.Endings.{Start}
use Rattle.bilv_spec.specs.QuestionLaws.{HasRun}
use Rattle.bilv_spec.proofs.Deciding.{questions_are_of_runs}
use Rattle.verdict.specs.Grounds.{HasRunOf, IsAnswered}
use Rattle.verdict.specs.Verdicts.{IsCertificate}
use Rattle.verdict.specs.declared.verdicts.Answered.{Answered}
use Rattle.verdict.specs.declared.verdicts.Answered.TheVariants as answer
use Rattle.verdict.specs.declared.verdicts.Certified.TheVariants.{Satisfiable, Refuted, Conflicts}

-- a start that has a question's run is some run of it
some_run : (p : Program) (k : ℕ) (question : Question) (start : Start) → HasRunOf p k question start → HasRun p k question
some_run p k EntryQuestion start is = (start.state, is)
some_run p k FailQuestion start is = (start, is.0, is.1)
some_run p k TurnQuestion start is = (start, is.0, is.1)

module _ (p : Program) (layout : Layout) (b : Budget) (question : Question) (a : Answered) (lawful : HasLawfulRows p) (reads : ReadsMemory p)
    (within : IsWithin p b) (is : IsAnswered p b.unroll layout question b.conflicts a) where
  -- the answer is of this form
  at : (c : Answered) → a ≡ c → IsAnswered p b.unroll layout question b.conflicts c
  at c same = subst (IsAnswered p b.unroll layout question b.conflicts) same is

  pub sat_certified : (s : declared.Start) → a ≡ answer.Sat s → IsCertificate p b question Satisfiable
  sat_certified s same =
      (within, (questions_are_of_runs p lawful reads b.unroll question).1 (some_run p b.unroll question _ (at (answer.Sat s) same).1))

  pub refuted_certified : (proof : Proof) → a ≡ answer.Refuted proof → IsCertificate p b question (Refuted proof)
  refuted_certified proof same =
      let refuted = at (answer.Refuted proof) same in (within, refuted_is_false p b.unroll question (proof_of proof) refuted, refuted)

  pub spent_certified : (proof : Proof) → a ≡ answer.Spent proof → IsCertificate p b question (Conflicts proof)
  spent_certified proof same = (within, at (answer.Spent proof) same)
