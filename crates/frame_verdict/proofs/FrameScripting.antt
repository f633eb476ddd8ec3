-- What the script of a question says of the frame of a function.
use Rattle.std.proofs.Common.{◌≡◌, ℕ, Bool, List, sym, subst, map}
use Rattle.frame_spec.specs.Frames.{Contract, Frame}
use Rattle.call_form.specs.declared.kind.Asked.{Asked}
use Rattle.frame_spec.specs.FramePoints.{has_heads}
use Rattle.frame_spec.specs.FrameQuestions.{Question}
use Rattle.frame_spec.specs.FrameScripts.{IsFrameScript}
use Rattle.frame_terms.specs.PassiveFrames.{IsPassive, IsWalkable}
use Rattle.known_bytes.specs.Runs.{AreRuns}
use Rattle.machine_spec.specs.StateText.{Layout}
use Rattle.question_form.specs.Asked.{frame_question}
use Rattle.question_form.specs.declared.questions.Passive.{Passive}
use Rattle.question_form.specs.declared.questions.Question as forms
use Rattle.question_form.specs.declared.unrolled.Unrolled.{Unrolled}
use Rattle.question_form.specs.FrameQuestions.{frame_of_question, frame_passive_of, frame_question_of, heads_of_question}
use Rattle.question_form.specs.FrameViews.{frame_unrolled_of}
use Rattle.smtlib_print.proofs.Framed.{script_of_frame}
use Rattle.smtlib_print.specs.FrameTold.{TellsFrameScript}
use Rattle.smtlib_print.specs.Numbered.{AreOnce}
use Rattle.start_value.specs.Starts.{layout_of}
use Rattle.frame_rounds.specs.FrameGrounds.{IsFrameGround}
use Rattle.frame_verdict.specs.FrameMeasures.{IsFrameMeasurable}

-- what a script tells over an unrolled frame as a value
abbrev pub Tells : Unrolled → Question → List ℕ → Type 0
Tells u question text = TellsFrameScript (frame_unrolled_of u) u.heads (layout_of u.form) question text

-- the points of an unrolled frame are each once
abbrev pub AreApart : Unrolled → Type 0
AreApart u = AreOnce (map (λ q. q.point) (frame_unrolled_of u).points)

-- the question of a passive program
module _ (passive : Passive) (question : forms.Question) (of : question.passive.now ≡ passive) where
  pub known_runs : AreRuns passive.unrolled.now.known.items → AreRuns question.passive.now.unrolled.now.known.items
  known_runs runs = subst (λ (z : Passive). AreRuns z.unrolled.now.known.items) (sym of) runs

  pub points_apart : AreApart passive.unrolled.now → AreOnce (map (λ q. q.point) (frame_of_question question).points)
  points_apart once = subst (λ (z : Passive). AreApart z.unrolled.now) (sym of) once

  pub tells_of : (asked : Asked) → question.asked ≡ asked → (text : List ℕ) →
      TellsFrameScript (frame_of_question question) (heads_of_question question) (layout_of question.passive.now.unrolled.now.form)
      (frame_question_of question) text → Tells passive.unrolled.now (frame_question asked) text
  tells_of asked is text told =
      subst (λ (z : Asked). Tells passive.unrolled.now (frame_question z) text) is
      (subst (λ (z : Passive). Tells z.unrolled.now (frame_question_of question) text) of told)

-- the passive program of an unrolled frame
module _ (u : Unrolled) (q : Passive) (of : q.unrolled.now ≡ u) where
  pub walkable_of : IsFrameMeasurable u → IsWalkable (frame_unrolled_of q.unrolled.now)
  walkable_of measurable = subst (λ (z : Unrolled). IsWalkable (frame_unrolled_of z)) (sym of) measurable.walkable

  pub passive_of : IsPassive (frame_unrolled_of u) u.heads (frame_passive_of q) →
      IsPassive (frame_unrolled_of q.unrolled.now) q.unrolled.now.heads (frame_passive_of q)
  passive_of passive = subst (λ (z : Unrolled). IsPassive (frame_unrolled_of z) z.heads (frame_passive_of q)) (sym of) passive

  pub runs_of : IsFrameMeasurable u → AreRuns q.unrolled.now.known.items
  runs_of measurable = subst (λ (z : Unrolled). AreRuns z.known.items) (sym of) measurable.runs

  pub apart_of : AreApart u → AreApart q.unrolled.now
  apart_of once = subst AreApart (sym of) once

  pub told_of : (question : Question) (text : List ℕ) → Tells q.unrolled.now question text → Tells u question text
  told_of question text told = subst (λ (z : Unrolled). Tells z question text) of told

-- a script over the unrolled frame of a frame is one of the frame
pub script_is : (f : Frame) (contracts : List Contract) (k : ℕ) (layout : Layout) (u : Unrolled) → IsFrameGround f contracts k layout u →
    (question : Question) (text : List ℕ) → Tells u question text → IsFrameScript f layout k question text
script_is f contracts k layout u ground question text told =
    script_of_frame f ground.lawful ground.low contracts ground.among k (frame_unrolled_of u) ground.unrolling layout question text
    (subst (λ (l : Layout). TellsFrameScript (frame_unrolled_of u) (has_heads f) l question text) ground.form
    (subst (λ (h : Bool). TellsFrameScript (frame_unrolled_of u) h (layout_of u.form) question text) ground.heads told))
