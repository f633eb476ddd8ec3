-- The points of an unrolled program, as they are put into order.
use Rattle.std.proofs.Common.{◌≡◌, ℕ, zero, suc, ◌+◌, ◌<◌, ◌^◌, ap, sym, ◌∙◌, subst, arith, Bool, true, List, [], ◌∷◌, ◌++◌, Some, length, map, refl, inl, inr, get_or}
use Rattle.std.specs.Prelude.{◌&&◌, slice_get, slice_index_or}
use Rattle.std.specs.List.Sorted.{IsPermutation}
use Rattle.std.proofs.Math.ListN.{length-append}
use Rattle.std.proofs.lemmas.Bool.{cases_order}
use Rattle.std.proofs.lemmas.List.{length-map}
use Rattle.std.proofs.lemmas.List.Sorted.{All-permutation, length_permutation}
use Rattle.frame_spec.specs.FramePoints as frames
use Rattle.program_points.specs.Listed.{anchor_of}
use Rattle.program_points.specs.Tables.{stack_at, stacks_of}
use Rattle.program_points.specs.declared.values.Frame.{Frame}
use Rattle.program_points.proofs.Lists.{or_left, or_last}
use Rattle.question_form.specs.Views.{no_code}
use Rattle.question_form.specs.declared.unrolled.Point.{Point}
use Rattle.question_form.specs.declared.unrolled.Root.{Root}
use Rattle.question_form.specs.declared.unrolled.Unrolled.{Unrolled}
use Rattle.question_form.specs.FrameViews as views
use Rattle.question_form.specs.FrameViews.{frame_unrolled_of, is_contract, no_root}
use Rattle.smtlib_print.specs.Numbered.{AreOnce, AreRanks}
use Rattle.smtlib_print.specs.Orders.{AreInverse, ArePlaced, AreSorted, IsPlacedAt, point_by, points_by}
use Rattle.smtlib_print.specs.declared.ordering.Placed.{Placed}
use Rattle.smtlib_print.proofs.Ranked.{are_ranks}

-- the point of its parts
abbrev there : frames.Anchor → (turns : ℕ) → Bool → (stack : List ℕ) → (at : ℕ) → frames.Point
there anchor turns contract stack at = record { anchor = anchor; turns = turns; contract = contract; stack = stack; at = at }

-- the point at a place
point_there : (u : Unrolled) (steps : Bool) (roots : List Root) (qs : List Point) (i : ℕ) → i < length qs → (d : Point) → d ≡ get_or qs i d →
    slice_get (map (point_by u steps roots) qs) i ≡ Some (point_by u steps roots d)
point_there u steps roots [] i l d e = absurd (omega (arith, l))
point_there u steps roots (q ∷ qs) zero l d e = ap (λ x. Some (point_by u steps roots x)) (sym e)
point_there u steps roots (q ∷ qs) (suc i) l d e = point_there u steps roots qs i (omega (arith, l)) d e

pub is_placed : (u : Unrolled) (steps : Bool) (roots : List Root) (i : ℕ) (d : Point) (x : Placed) → i < length u.points.items →
    d ≡ get_or u.points.items i d → x.root ≡ (slice_index_or roots d.root no_root).head → x.turns ≡ d.turns → x.stack ≡ d.stack →
    x.at ≡ (slice_index_or u.codes.items d.code no_code).at → x.contract ≡ (steps && is_contract d.deed) → x.place ≡ i →
    IsPlacedAt (points_by u steps roots) u.frames.items i x
is_placed u steps roots i d x l e root turns stack at contract place =
    let table = stacks_of u.frames.items in
    let stacks = u.frames.items in
    let head = (slice_index_or roots d.root no_root).head in (
      place,
      point_there u steps roots u.points.items i l d e
          ∙ ap Some (sym (ap (λ z. there (anchor_of table z) x.turns x.contract (stack_at stacks x.stack) x.at) root
          ∙ ap (λ z. there (anchor_of table head) z x.contract (stack_at stacks x.stack) x.at) turns
          ∙ ap (λ z. there (anchor_of table head) d.turns z (stack_at stacks x.stack) x.at) contract
          ∙ ap (λ z. there (anchor_of table head) d.turns (steps && is_contract d.deed) (stack_at stacks z) x.at) stack
          ∙ ap (λ z. there (anchor_of table head) d.turns (steps && is_contract d.deed) (stack_at stacks d.stack) z) at)),
    )

-- so many points are listed
pub record ArePlacedTo (all : List frames.Point) (table : List Frame) (n : ℕ) (xs : List Placed) : Type 0 where
  pub count : length xs ≡ n
  pub each : (i : ℕ) (d : Placed) → i < n → IsPlacedAt all table i (get_or xs i d)

pub placed_none : (all : List frames.Point) (table : List Frame) (xs : List Placed) → xs ≡ [] → ArePlacedTo all table 0 xs
placed_none all table xs e = record { count = ap length e; each = λ i d l. absurd (omega (arith, l)) }

pub placed_more : (all : List frames.Point) (table : List Frame) (n : ℕ) (x : Placed) (xs new : List Placed) → new ≡ xs ++ x ∷ [] →
    IsPlacedAt all table n x → ArePlacedTo all table n xs → ArePlacedTo all table (n + 1) new
placed_more all table n x xs new e is so_far =
    let long : length (xs ++ x ∷ []) ≡ length xs + 1 = length-append xs (x ∷ []) in
    record {
      count = ap length e ∙ long ∙ ap (λ m. m + 1) so_far.count;
      each = λ i d l. elim (cases_order i n) [
        | inl t ↦ (let z : i ≡ length xs = omega (arith, t, so_far.count) in
            let at : get_or new i d ≡ x = ap (λ (l : List Placed). get_or l i d) e ∙ ap (λ m. get_or (xs ++ x ∷ []) m d) z ∙ or_last xs x d in
            subst (λ (m : ℕ). IsPlacedAt all table m (get_or new i d)) (sym t)
            (subst (λ (y : Placed). IsPlacedAt all table n y) (sym at) is))
        | inr t ↦ elim t [
          | inl a ↦ (let at : get_or new i d ≡ get_or xs i d =
              ap (λ (l : List Placed). get_or l i d) e ∙ or_left xs (x ∷ []) i d (omega (arith, a, so_far.count)) in
              subst (λ (y : Placed). IsPlacedAt all table i y) (sym at) (so_far.each i d a))
          | inr a ↦ absurd (omega (arith, l, a))
        ]
      ];
    }

pub all_placed : (u : Unrolled) (steps : Bool) (roots : List Root) (n : ℕ) (xs : List Placed) → n ≡ length u.points.items →
    ArePlacedTo (points_by u steps roots) u.frames.items n xs → ArePlaced (points_by u steps roots) u.frames.items xs
all_placed u steps roots n xs e are =
    (are.count ∙ e ∙ sym (length-map u.points.items (point_by u steps roots)), λ i d l. are.each i d (omega (arith, l, are.count)))

module _ (u : Unrolled) (steps : Bool) (roots : List Root) (placed order read : List Placed) (are : ArePlaced (points_by u steps roots) u.frames.items placed)
    (moved : IsPermutation placed order) (same : read ≡ order) where
  pub order_count : length read ≡ length u.points.items
  order_count = ap length same ∙ length_permutation placed order moved ∙ are.0 ∙ length-map u.points.items (point_by u steps roots)

  -- each is at a place of a point
  pub order_within : (i : ℕ) (d : Placed) → i < length read → (get_or read i d).place < length read
  order_within i d l =
      let long : length placed ≡ length u.points.items = are.0 ∙ length-map u.points.items (point_by u steps roots) in
      let all = All-permutation (λ (x : Placed). x.place < length u.points.items) placed order moved
      (λ j e m. (let q = (are.1 j e m).0 in omega (arith, q, m, long))) in
      let here = all i d (let n : length read ≡ length order = ap length same in omega (arith, l, n)) in
      let at : get_or read i d ≡ get_or order i d = ap (λ (xs : List Placed). get_or xs i d) same in
      let place : (get_or read i d).place ≡ (get_or order i d).place = ap (λ (x : Placed). x.place) at in
      omega (arith, here, place, order_count)

  -- the numbers of their places are those of the points
  pub order_ranks : (table : List Frame) (numbers : List ℕ) → AreOnce (points_by u steps roots) → table ≡ u.frames.items → AreSorted table order →
      AreInverse read numbers → length numbers ≡ length read → length read < 2 ^ 32 → AreRanks (points_by u steps roots) numbers
  order_ranks table numbers apart of sorted inverse count few =
      are_ranks (points_by u steps roots) u.frames.items placed order numbers apart are moved (subst (λ (f : List Frame). AreSorted f order) of sorted)
      (subst (λ (xs : List Placed). AreInverse xs numbers) same inverse) (count ∙ ap length same)
      (let n : length read ≡ length order = ap length same in omega (arith, few, n))

-- the points of the unrolled frame of a value
points_are : (u : Unrolled) (qs : List Point) → map (λ q. q.point) (views.points_of u qs) ≡ map (point_by u true u.roots.items) qs
points_are u [] = refl
points_are u (q ∷ qs) = ap (λ l. point_by u true u.roots.items q ∷ l) (points_are u qs)

pub frame_points : (u : Unrolled) → map (λ q. q.point) (frame_unrolled_of u).points ≡ points_by u true u.roots.items
frame_points u = points_are u u.points.items
