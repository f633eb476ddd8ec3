-- Frames measured one behind the other.
use Rattle.std.proofs.Common.{◌≡◌, sym, ◌∙◌, subst, arith, ℕ, ◌+◌, ◌-◌, ◌^◌, ◌<◌, ◌≤◌, List, [], ◌++◌, Option, Some, None, map, length}
use Rattle.std.specs.Prelude.{MatchOption, min}
use Rattle.std.proofs.lemmas.List.{length-map}
use Rattle.call_spec.specs.Calls.{Budget}
use Rattle.machine_spec.specs.StateText.{Layout}
use Rattle.frame_spec.specs.Frames.{Contract}
use Rattle.frame_spec.specs.FramePoints.{IsPrice, Point}
use Rattle.frame_spec.specs.FrameReports.{HasMore, IsWholePrice, IsWithin, last_rank}
use Rattle.frame_spec.specs.FrameVerdict.{Whole, frame_of}
use Rattle.frame_laws.specs.FramePrices.{unrolled_price}
use Rattle.frame_laws.proofs.FramePriceLaw.{frame_price_is_price}
use Rattle.program_points.specs.Listed.{HasTooMany}
use Rattle.program_points.specs.declared.values.PointsFault.{PointsFault}
use Rattle.program_points.specs.declared.values.PointsFault.TheVariants.{TooMany}
use Rattle.notes_value.specs.FrameViews.{contract_of}
use Rattle.question_form.specs.declared.unrolled.Unrolled.{Unrolled}
use Rattle.question_form.specs.FrameViews.{frame_unrolled_of}
use Rattle.frame_verdict.specs.FrameCertificates.{IsFrameExceeded}
use Rattle.frame_verdict.specs.FrameFunctions.{whole_of_framed}
use Rattle.frame_verdict.specs.FrameMeasures.{AreMeasured, IsFrameUnrolled, IsMeasuredTo, IsPriceBelow}
use Rattle.frame_verdict.specs.declared.framed.Framed.{Framed}
use Rattle.frame_verdict.specs.declared.measuring.Left.{Left}
use Rattle.frame_verdict.specs.declared.measuring.Measured.{Measured}
use Rattle.verdict.specs.declared.verdicts.Exceeded.TheVariants as past
use Rattle.frame_verdict.proofs.Grounding.{count_points}
use Rattle.frame_verdict.proofs.Wholes.{length_behind, more_of_rank, no_more, no_price, none_below, not_capped, points_behind, price_behind, within}

-- what is said of an option, by what it is
pub match_none : {X : Type 0} (o : Option X) (A : Type 0) (B : X → Type 0) → MatchOption o A B → o ≡ None → A
match_none o A B h e = subst (λ (z : Option _). MatchOption z A B) e h

pub match_some : {X : Type 0} (o : Option X) (x : X) (A : Type 0) (B : X → Type 0) → MatchOption o A B → o ≡ Some x → B x
match_some o x A B h e = subst (λ (z : Option _). MatchOption z A B) e h

-- nothing is measured
pub none_measured : (w : Whole) (k max : ℕ) (left : Left) → left.points ≡ max → left.price ≡ 0 → AreMeasured w k max 0 left
none_measured w k max left all free = record {
  list = [];
  are = none_below w k;
  points = omega (arith, all);
  price = λ h. subst (IsPriceBelow w k 0) (sym free) (no_price w k);
}

module _ (w : Whole) (k max rank : ℕ) (left : Left) (before : AreMeasured w k max rank left) where
  module _ (contracts : List Contract) (layout : Layout) (u : Unrolled) (is : IsFrameUnrolled (frame_of w rank) contracts k layout u) (after : Left)
      (points : after.points + length u.points.items ≡ left.points)
      (price : after.price ≡ min (left.price + min (unrolled_price (frame_unrolled_of u) u.heads) (2 ^ 128 - 1)) (2 ^ 128 - 1)) where
    abbrev its : List Point
    its = map (λ q. q.point) (frame_unrolled_of u).points

    counted : length its ≡ length u.points.items
    counted = length-map (frame_unrolled_of u).points (λ q. q.point) ∙ count_points u u.points.items

    its_price : IsPrice (frame_of w rank) k (unrolled_price (frame_unrolled_of u) u.heads)
    its_price =
        subst (λ h. IsPrice (frame_of w rank) k (unrolled_price (frame_unrolled_of u) h)) (sym is.ground.heads)
        (frame_price_is_price (frame_of w rank) contracts k (frame_unrolled_of u) is.ground.unrolling)

    -- one more frame is measured
    pub next_measured : AreMeasured w k max (rank + 1) after
    next_measured = record {
      list = before.list ++ map (λ q. (rank, q)) its;
      are = points_behind w k rank before.list before.are its is.ground.unrolling.points;
      points = (let a = length_behind w k rank before.list before.are its in let b = counted in let c = before.points in let d = points in omega arith);
      price = λ other.
          (let q = not_capped left.price (unrolled_price (frame_unrolled_of u) u.heads) after.price (2 ^ 128 - 1) price other in
          subst (IsPriceBelow w k (rank + 1)) (sym q.1)
          (price_behind w k rank left.price (unrolled_price (frame_unrolled_of u) u.heads) (before.price q.0) its_price));
    }

  -- or it has too many points
  pub too_many : rank ≤ last_rank w → (count : ℕ) (e : PointsFault) → HasTooMany (frame_of w rank) k left.points e → e ≡ TooMany count → HasMore w k max
  too_many low count e h is =
      let more = subst (λ (z : PointsFault). HasTooMany (frame_of w rank) k left.points z) is h in
      more_of_rank w k rank before.list before.are max left.points low before.points more.0

-- all are measured
module _ (w : Whole) (layout : Layout) (b : Budget) (x : Measured) (is : IsMeasuredTo w (last_rank w) layout b x) (other : x.left.price ≡ 2 ^ 128 - 1 → ⊥) where
  few : ¬ HasMore w b.unroll b.points
  few = no_more w b.unroll b.points is.left.list is.left.are (let e = is.left.points in omega arith)

  whole : IsWholePrice w b.unroll x.left.price
  whole = is.left.price other

  pub above : b.size < x.left.price → IsFrameExceeded w b (past.Size x.left.price)
  above more = (few, whole, more)

  pub all_within : x.left.price ≤ b.size → IsWithin w b
  all_within cheap = within w b x.left.price few whole cheap

-- the last frame is the function's own
pub measured_last : {M I S : Type 0} {ms : _} {vs : _} (x : Framed M I S ms vs) (layout : Layout) (b : Budget) (y : Measured) →
    IsMeasuredTo (whole_of_framed x) (length x.contracts.now) layout b y → IsMeasuredTo (whole_of_framed x) (last_rank (whole_of_framed x)) layout b y
measured_last x layout b y h =
    subst (λ (n : ℕ). IsMeasuredTo (whole_of_framed x) n layout b y) (sym (length-map x.contracts.now contract_of)) h
