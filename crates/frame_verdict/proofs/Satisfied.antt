-- What an answer to a question of a frame certifies.
use Rattle.std.proofs.Common.{◌≡◌, ◌≢◌, ◌∙◌, sym, ap, ℕ, List, Option, None}
use Rattle.bilv_spec.specs.Run.{Place}
use Rattle.machine_spec.specs.StateText.{Layout}
use Rattle.frame_spec.specs.Frames.{Frame}
use Rattle.frame_spec.specs.FramePoints.{Anchor, AtEntry, AtHead}
use Rattle.frame_spec.specs.FrameQuestions.{Question, EntryQuestion, FailQuestion, StepQuestion, TurnQuestion, IsSatisfiable}
use Rattle.frame_spec.specs.FrameReports.{shown_start}
use Rattle.frame_spec.specs.FrameRuns.{Start as Begun}
use Rattle.frame_spec.specs.FrameVerdict.{Whole, frame_of}
use Rattle.frame_spec.proofs.OfSegments.{questions_are_of_segments}
use Rattle.frame_terms.specs.FrameStarts.{shown_of}
use Rattle.question_form.specs.declared.unrolled.Unrolled.{Unrolled}
use Rattle.question_form.specs.FrameViews.{anchor_at, frame_unrolled_of}
use Rattle.frame_rounds.specs.FrameGrounds.{AreSegments, IsFrameGround, shown_at}
use Rattle.frame_start.specs.declared.meaning.Segments.{Segments}
use Rattle.frame_start.specs.Segments.{calls_at, choices_at, written_parts}

module _ (w : Whole) (rank : ℕ) (layout : Layout) (k : ℕ) (u : Unrolled) (s : Segments)
    (ground : IsFrameGround (frame_of w rank) w.contracts k layout u) where
  abbrev f : Frame
  f = frame_of w rank

  -- the start that is shown of the root of a number
  abbrev begun : ℕ → Begun
  begun i = shown_start w f layout (shown_at u s i)

  -- its head state, by its anchor
  abbrev head_by : Anchor → ℕ → Option Place
  head_by anchor i =
      (shown_start w f layout
      (shown_of (written_parts s.parts) anchor (choices_at s.choices.items i) (calls_at (frame_unrolled_of u) s.parts s.calls.items i))).head

  no_head : (i : ℕ) → anchor_at u i ≡ AtEntry → (begun i).head ≡ None
  no_head i at = ap (λ (a : Anchor). head_by a i) at

  some_head : (i : ℕ) (stack : List ℕ) (a : ℕ) → anchor_at u i ≡ AtHead stack a → (begun i).head ≢ None
  some_head i stack a at none = let z = sym (ap (λ (b : Anchor). head_by b i) at) ∙ none in cc

  -- what is shown makes the question true
  pub segments_satisfy : (question : Question) → AreSegments f k layout question u s → IsSatisfiable f k question
  segments_satisfy EntryQuestion h = (questions_are_of_segments f ground.lawful ground.reads k EntryQuestion).1 (_, h.shows.1)
  segments_satisfy FailQuestion h =
      let shown = h.shows.1 w ground.among.stepped in
      (questions_are_of_segments f ground.lawful ground.reads k FailQuestion).1 (begun 0, shown.1, no_head 0 h.shows.0, shown.2)
  segments_satisfy StepQuestion h =
      let i = h.shows.0 in
      let shown = h.shows.2 w ground.among.stepped in
      (questions_are_of_segments f ground.lawful ground.reads k StepQuestion).1
      (begun i, shown.1, some_head i h.shows.1.1.0 h.shows.1.1.1 h.shows.1.1.2, shown.2)
  segments_satisfy TurnQuestion h =
      let shown = h.shows.2 w ground.among.stepped in
      (questions_are_of_segments f ground.lawful ground.reads k TurnQuestion).1 (begun h.shows.0, shown.1, shown.2)
