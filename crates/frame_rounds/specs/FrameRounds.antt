-- What a round of a question of a frame comes to.
use Rattle.std.specs.Prelude.{ℕ, ◌<◌, Bool, Contains, List, length}
use Rattle.asked_bytes.specs.AskedBytes.{AreAdded, AreFurther}
use Rattle.question_form.specs.declared.questions.Question.{Question}
use Rattle.question_form.specs.declared.unrolled.Unrolled.{Unrolled}
use Rattle.frame_spec.specs.FrameQuestions as questions
use Rattle.question_form.specs.FrameQuestions.{frame_of_question, frame_question_of}
use Rattle.question_form.specs.FrameViews.{frame_unrolled_of}
use Rattle.mem_cells.specs.declared.cells.Celled.{Celled}
use Rattle.frame_start.specs.Files.{AreBroken}
use Rattle.frame_start.specs.Segments.{AreSegmentsOf}
use Rattle.frame_rounds.specs.FrameGrounds.{AnswersFrame, RulesOut}
use Rattle.frame_rounds.specs.declared.answers.FrameAnswered.TheVariants.{Sat, Refuted, Spent}
use Rattle.frame_rounds.specs.declared.answers.FrameDecided.{FrameDecided}
use Rattle.frame_rounds.specs.declared.rounds.Round.{Round}
use Rattle.frame_rounds.specs.declared.rounds.Round.TheVariants.{Answered, Broken}

-- satisfying values come to segments that are theirs, or to the bytes of the file that they have not
abbrev pub AreJudged : Celled → (values : List Bool) → Round → Type 0
AreJudged c values (Answered (Sat s)) = AreSegmentsOf c values s
AreJudged c values (Answered (Refuted proof)) = ⊥
AreJudged c values (Answered (Spent proof)) = ⊥
AreJudged c values (Broken list) = AreBroken c values list.items × (0 < length list.items)

-- the question's answer, or further known bytes to ask
abbrev pub IsRound : Question → (added : List ℕ) → (conflicts : ℕ) → Round → Type 0
IsRound q added conflicts (Answered a) =
    AnswersFrame q.passive.now.unrolled.now (frame_question_of q) conflicts a × RulesOut q.passive.now.unrolled.now (frame_question_of q) added a
IsRound q added conflicts (Broken list) = AreFurther (frame_of_question q).known added list.items

-- A question came to an answer, over the bytes that were asked: those that were to be asked, and maybe others.
pub record IsFrameDecided (u : Unrolled) (question : questions.Question) (conflicts : ℕ) (first : List ℕ) (d : FrameDecided) : Type 0 where
  pub answers : AnswersFrame u question conflicts d.answered
  pub rules : RulesOut u question d.added.items d.answered
  pub added : AreAdded (frame_unrolled_of u).known d.added.items
  pub keep : (a : ℕ) → Contains first a → Contains d.added.items a
