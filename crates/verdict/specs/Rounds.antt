-- What is asked of a program, and what that comes to.
use Rattle.std.specs.Prelude.{ℕ, ◌≡◌, ◌<◌, List, Some, length, Contains}
use Rattle.word_spec.specs.State.{Written}
use Rattle.term_spec.specs.Passive.{IsPassive}
use Rattle.walk_spec.specs.Unrolled.{UnrolledProgram, byte_of_runs}
use Rattle.walk_spec.specs.Unrolling.{IsWalkable}
use Rattle.start_value.specs.Starts.{written_of}
use Rattle.known_bytes.specs.Runs.{AreRuns}
use Rattle.asked_bytes.specs.AskedBytes as asking
use Rattle.question_form.specs.Questions.{passive_of}
use Rattle.question_form.specs.FrameViews.{IsHeadless}
use Rattle.question_form.specs.Views.{unrolled_of}
use Rattle.question_form.specs.declared.questions.Passive.{Passive}
use Rattle.call_spec.specs.Calls as asked
use Rattle.frame_start.specs.Segments.{IsFrameAskable, choices_at}
use Rattle.frame_start.specs.declared.meaning.Segments.{Segments}
use Rattle.frame_rounds.specs.declared.answers.FrameAnswered.{FrameAnswered}
use Rattle.frame_rounds.specs.declared.answers.FrameAnswered.TheVariants as frames
use Rattle.verdict.specs.Grounds.{AnswersOver}
use Rattle.verdict.specs.declared.deciding.Decided.{Decided}
use Rattle.verdict.specs.declared.verdicts.Answered.{Answered}
use Rattle.verdict.specs.declared.verdicts.Answered.TheVariants.{Sat, Refuted, Spent}

-- the known bytes are bytes
abbrev pub HasBytes : UnrolledProgram → Type 0
HasBytes u = (a b : ℕ) → byte_of_runs u.known a ≡ Some b → b < 256

-- a passive program of which questions can be asked
pub record IsAskable (q : Passive) : Type 0 where
  pub headless : IsHeadless q.unrolled.now
  pub walkable : IsWalkable (unrolled_of q.unrolled.now)
  pub bytes : HasBytes (unrolled_of q.unrolled.now)
  pub runs : AreRuns q.unrolled.now.known.items
  pub tells : IsPassive (unrolled_of q.unrolled.now) (passive_of q)

-- one of which questions can also be asked as those of a frame, so that they can be decided
pub record IsDecidable (q : Passive) : Type 0 where
  pub askable : IsAskable q
  pub frame : IsFrameAskable q

-- addresses that are asked, further ones, and more, of the known bytes of a program
abbrev pub AreAdded : UnrolledProgram → (added : List ℕ) → Type 0
AreAdded u added = asking.AreAdded u.known added

abbrev pub AreFurther : UnrolledProgram → (added further : List ℕ) → Type 0
AreFurther u added further = asking.AreFurther u.known added further

abbrev pub AreMore : UnrolledProgram → (added more : List ℕ) → Type 0
AreMore u added more = asking.AreMore u.known added more

-- the entry as it is shown, with the choices of its segment
abbrev pub entry_shown : Segments → Written
entry_shown s = record (written_of s.parts.entry) { choices = choices_at s.choices.items 0 }

-- the answer to a question of a frame of one segment, as one of its program
abbrev pub IsTold : FrameAnswered → Answered → Type 0
IsTold (frames.Sat s) (Sat start) = length s.choices.items ≡ 1 → written_of start ≡ entry_shown s
IsTold (frames.Refuted p) (Refuted q) = p ≡ q
IsTold (frames.Spent p) (Spent q) = p ≡ q
IsTold a b = ⊥

-- A question came to an answer, over the bytes that were asked: those that were to be asked, and maybe others.
pub record IsDecided (u : UnrolledProgram) (question : asked.Question) (conflicts : ℕ) (first : List ℕ) (d : Decided) : Type 0 where
  pub answers : AnswersOver u question d.asked.items conflicts d.answered
  pub added : AreAdded u d.asked.items
  pub keep : (a : ℕ) → Contains first a → Contains d.asked.items a
