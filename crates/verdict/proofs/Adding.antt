-- The answer to a question, in one of its forms.
use Rattle.std.proofs.Common.{◌≡◌, subst, ℕ, Bool, List}
use Rattle.call_spec.specs.Calls.{Question}
use Rattle.term_spec.specs.WalkQuestions.{is_asked}
use Rattle.walk_spec.specs.Unrolled.{UnrolledProgram}
use Rattle.bilv_spec.specs.Run.{Program}
use Rattle.bilv_spec.specs.PointLaws.{ReadsMemory}
use Rattle.machine_spec.specs.StateText.{Layout}
use Rattle.verdict.specs.Grounds.{Answers, IsAnswered, IsAnsweredOver, IsGround}
use Rattle.verdict.specs.Rounds.{IsDecided}
use Rattle.verdict.specs.declared.deciding.Decided.{Decided}
use Rattle.verdict.specs.declared.verdicts.Answered.{Answered}
use Rattle.verdict.specs.declared.verdicts.Answered.TheVariants as answer

-- an answer over some bytes is an answer
over_any : (p : Program) (k : ℕ) (layout : Layout) (question : Question) (asked : ℕ → Bool) (conflicts : ℕ) (a : Answered) →
    IsAnsweredOver p k layout question asked conflicts a → IsAnswered p k layout question conflicts a
over_any p k layout question asked conflicts (answer.Sat s) is = is
over_any p k layout question asked conflicts (answer.Refuted proof) is = is.refutes
over_any p k layout question asked conflicts (answer.Spent proof) is = is

pub of_decided : (u : UnrolledProgram) (question : Question) (conflicts : ℕ) (first : List ℕ) (d : Decided) → IsDecided u question conflicts first d →
    Answers u question conflicts d.answered
of_decided u question conflicts first d h p k layout reads ground =
    over_any p k layout question (is_asked d.asked.items u.literals) conflicts d.answered (h.answers p k layout reads ground)

-- the answer that a question has, over a program
pub answered : (u : UnrolledProgram) (question : Question) (conflicts : ℕ) (a b : Answered) → Answers u question conflicts a → a ≡ b →
    (p : Program) (k : ℕ) (layout : Layout) → ReadsMemory p → IsGround p k layout u → IsAnswered p k layout question conflicts b
answered u question conflicts a b h is = subst (λ (z : Answered). Answers u question conflicts z) is h
