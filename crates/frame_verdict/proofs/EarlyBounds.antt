-- Frames that are unrolled for a smaller bound than the budget's.
use Rattle.std.proofs.Common.{◌≡◌, sym, ap, subst, ◌∙◌, ℕ, ◌≤◌, ◌^◌, List, length, arith}
use Rattle.call_spec.specs.Calls as calls
use Rattle.machine_spec.specs.StateText.{Layout}
use Rattle.frame_spec.specs.Frames.{Contract, Frame}
use Rattle.frame_spec.specs.FramePoints.{has_heads}
use Rattle.frame_spec.specs.FrameReports.{HasMore}
use Rattle.frame_turns.specs.Raised.{free_inputs}
use Rattle.call_form.specs.Views.{budget_of}
use Rattle.call_form.specs.declared.budget.Budget.{Budget}
use Rattle.question_form.specs.FrameViews.{frame_unrolled_of}
use Rattle.question_form.specs.declared.unrolled.Unrolled.{Unrolled}
use Rattle.frame_verdict.specs.FewerTurns.{AreNoTurns, ComesTo, IsSmaller}
use Rattle.frame_verdict.specs.FrameFunctions.{CanShow, IsReady, contracts_of, frame_at, whole_of_framed}
use Rattle.frame_verdict.specs.FrameMeasures.{IsFrameUnrolled}
use Rattle.frame_verdict.specs.declared.framed.Framed.{Framed}
use Rattle.frame_verdict.specs.declared.smaller.NoTurns.{NoTurns}
use Rattle.frame_verdict.proofs.EarlyFrames.{few_before}
use Rattle.frame_verdict.proofs.Grounding.{count_points}

module _ {M I S : Type 0} {ms : _} {vs : _} (form : Layout) (x : Framed M I S ms vs) (b small : Budget) (rank : ℕ) (whole u : Unrolled)
    (ready : IsReady form x b rank whole) (turns : ℕ) (few : turns ≤ b.unroll) (same : budget_of small ≡ record (budget_of b) { unroll = turns })
    (unrolled : IsFrameUnrolled (frame_at x rank) (contracts_of x) small.unroll form u) where
  fewer : small.unroll ≤ b.unroll
  fewer = let e : small.unroll ≡ turns = ap (λ (z : calls.Budget). z.unroll) same in omega arith

  points_same : small.points ≡ b.points
  points_same = ap (λ (z : calls.Budget). z.points) same

  -- its segments can be shown
  pub shows_early : CanShow form x small rank u
  shows_early = record {
    runs = ready.runs;
    ranked = ready.ranked;
    few = subst (λ (n : ℕ). ¬ HasMore (whole_of_framed x) small.unroll n) (sym points_same)
        (few_before (whole_of_framed x) small.unroll b.unroll b.points fewer ready.within.points);
    unrolled = unrolled;
  }

  pub smaller : length u.roots.items ≡ length whole.roots.items → IsSmaller (frame_at x rank) (contracts_of x) small.unroll b.unroll form whole u
  smaller roots = record { few = fewer; small = unrolled; great = ready.unrolled; roots = roots }

-- what the questions about segments come to, for a frame
module _ (f : Frame) (contracts : List Contract) (k m : ℕ) (layout : Layout) (whole u : Unrolled) (is : IsSmaller f contracts k m layout whole u) (inputs : ℕ)
    (count : inputs ≡ free_inputs (frame_unrolled_of whole) whole.heads) where
  pub counted : inputs ≡ free_inputs (frame_unrolled_of whole) (has_heads f)
  counted = count ∙ ap (free_inputs (frame_unrolled_of whole)) is.great.ground.heads

  pub comes : (n r : NoTurns) → ComesTo u inputs n → n ≡ r → AreNoTurns f k m layout u r
  comes n r h e = subst (AreNoTurns f k m layout u) e (h f contracts k m layout whole is counted)

-- so few points that inputs can be counted
pub few_points : (f : Frame) (contracts : List Contract) (k : ℕ) (layout : Layout) (u : Unrolled) → IsFrameUnrolled f contracts k layout u →
    length u.points.items ≤ 2 ^ 28
few_points f contracts k layout u is = let few = is.ground.steps in let same = count_points u u.points.items in omega (arith, few, same)
