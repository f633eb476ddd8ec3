-- What a passive program is of.
use Rattle.std.specs.Prelude.{ℕ, ◌≡◌, ◌<◌, false, Option, length}
use Rattle.term_spec.specs.Terms.{HasWidth}
use Rattle.term_spec.specs.Passive.{IsPassive, UnderAll, Tells}
use Rattle.term_spec.specs.WalkQuestions.{term_reading}
use Rattle.frame_terms.specs.PassiveFrames as frames
use Rattle.question_form.specs.Views.{unrolled_of}
use Rattle.question_form.specs.FrameViews.{frame_unrolled_of}
use Rattle.question_form.specs.FrameQuestions.{frame_passive_of}
use Rattle.question_form.specs.Questions.{passive_of}
use Rattle.question_form.specs.declared.unrolled.Unrolled.{Unrolled}
use Rattle.question_form.specs.declared.questions.Passive.{Passive}
use Rattle.term_names.specs.declared.names.Names.{Names}
use Rattle.passify.specs.Lasts.{AreCarriedIn, HaveStates}

-- A passive program is that of an unrolled one: its bits tell of the walk, which has no segment from a head, and among its nodes are the states at the places
-- that the walk comes to.
pub record IsPassiveOf (u : Unrolled) (p : Passive) : Type 0 where
  pub of : p.unrolled.now ≡ u
  pub tells : IsPassive (unrolled_of u) (passive_of p)
  pub steps_bit : HasWidth p.dag 1 p.steps.0
  pub never : UnderAll (unrolled_of u) (λ r. Tells p.dag (term_reading (unrolled_of u) r) p.steps.0 false)
  pub states : HaveStates (unrolled_of u) p.dag

-- A passive program is that of an unrolled frame, and among its nodes are the states at the places that walks come to.
pub record IsPassiveIn (u : Unrolled) (p : Passive) : Type 0 where
  pub of : p.unrolled.now ≡ u
  pub tells : frames.IsPassive (frame_unrolled_of u) u.heads (frame_passive_of p)
  pub states : (i : ℕ) → i < length u.points.items → (names : Option Names) × AreCarriedIn (frame_unrolled_of u) i p.dag names
