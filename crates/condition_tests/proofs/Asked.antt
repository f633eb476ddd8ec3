-- Questions can be asked of the passive program of a question, and of its cells.
use Rattle.std.proofs.Common.{◌≡◌, sym, subst, ℕ, ◌<◌, List, Some}
use Rattle.walk_spec.specs.Unrolled.{byte_of_runs}
use Rattle.frame_terms.specs.FrameCells.{AreFormed}
use Rattle.frame_terms.proofs.CountedStores.{gift_stores}
use Rattle.call_form.specs.declared.kind.Asked.{Asked}
use Rattle.call_form.specs.declared.kind.Kind.{Kind}
use Rattle.question_form.specs.Asked.{asked_of}
use Rattle.question_form.specs.declared.questions.Passive.{Passive}
use Rattle.question_form.specs.declared.questions.Question.{Question}
use Rattle.question_form.specs.FrameQuestions.{frame_of_question, heads_of_question}
use Rattle.question_form.specs.FrameViews.{frame_unrolled_of}
use Rattle.mem_cells.specs.FrameViews.{AreFrameCellsOf, frame_cells_of, frame_of_cells}
use Rattle.mem_cells.specs.Parts.{CountsGifts}
use Rattle.mem_cells.specs.Views.{AreCellsOf}
use Rattle.mem_cells.specs.declared.cells.Celled.{Celled}
use Rattle.frame_start.specs.Segments.{IsFrameAskable}
use Rattle.verdict.specs.Rounds.{IsAskable}

pub askable_question : (p : Passive) (kind : Kind) (q : Question) → (q.passive.now ≡ p) × (q.asked ≡ asked_of kind) → IsAskable p → IsAskable q.passive.now
askable_question p kind q h is = subst IsAskable (sym h.0) is

pub askable_cells : (q : Question) (added : List ℕ) (c : Celled) → AreCellsOf q added c → IsAskable q.passive.now → IsAskable c.question.now.passive.now
askable_cells q added c h is = subst (λ (z : Question). IsAskable z.passive.now) (sym h.of) is

-- so of those of a frame
module _ (p : Passive) (asked : Asked) (q : Question) (h : (q.passive.now ≡ p) × (q.asked ≡ asked)) (is : IsFrameAskable p) where
  moved : IsFrameAskable q.passive.now
  moved = subst IsFrameAskable (sym h.0) is

  pub asked_bytes : (a b : ℕ) → byte_of_runs (frame_of_question q).known a ≡ Some b → b < 256
  asked_bytes = moved.bytes

  pub asked_gifts : CountsGifts (frame_of_question q)
  asked_gifts = gift_stores (frame_unrolled_of q.passive.now.unrolled.now) moved.walkable

pub formed_cells : (q : Question) (added : List ℕ) (c : Celled) → AreFrameCellsOf q added c →
    AreFormed (frame_of_cells c) (heads_of_question c.question.now) (frame_cells_of c)
formed_cells q added c h =
    subst (λ (z : Question). AreFormed (frame_of_cells c) (heads_of_question z) (frame_cells_of c)) (sym h.of) h.tells.formed
