use Rattle.std.proofs.Common.{◌≡◌, ◌<◌, ℕ, suc, Option}
use Rattle.question_form.specs.FrameViews.{frame_unrolled_of}
use Rattle.term_names.specs.declared.names.Names.{Names}
use Rattle.passify.specs.Lasts.{AreCarriedIn}
use Rattle.passify.specs.Swept.{AreSwept}
use Rattle.passify.proofs.sweeping.swept.Given as goal

abbrev pub invariant-loop-place : goal.invariant-loop-place
invariant-loop-place l = record {
  swept : AreSwept l.unrolled l.place l.dag l.sweep;
  states : (i : ℕ) → i < l.place → (names : Option Names) × AreCarriedIn (frame_unrolled_of l.unrolled) i l.dag names;
  last : (i : ℕ) → suc i ≡ l.place → AreCarriedIn (frame_unrolled_of l.unrolled) i l.dag l.last;
}
