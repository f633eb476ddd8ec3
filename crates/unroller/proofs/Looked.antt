-- What an unrolled program as a value says at a place, and of its form.
use Rattle.std.proofs.Common.{◌≡◌, refl, ap, sym, ◌∙◌, subst, arith, ℕ, zero, suc, ◌+◌, ◌<◌, ◌^◌, Some, Bool, List, [], ◌∷◌, length, drop, get_or}
use Rattle.std.specs.Prelude.{◌||◌, ◌&&◌, nat_eq, nat_le, nat_lt, slice_get}
use Rattle.std.specs.List.{list_any}
use Rattle.std.proofs.lemmas.Bool.Decides.{nat_tests}
use Rattle.std.proofs.lemmas.Option.{slice_get-get_or}
use Rattle.word_spec.specs.RowFiles.{from_to}
use Rattle.start_value.specs.Starts.{layout_of}
use Rattle.walk_spec.specs.Unrolled.{no_point, point_at}
use Rattle.frame_spec.specs.FrameWalk as walk
use Rattle.question_form.specs.declared.unrolled.Point.{Point}
use Rattle.question_form.specs.declared.unrolled.Unrolled.{Unrolled}
use Rattle.question_form.specs.declared.unrolled.Deed.TheVariants.{Row}
use Rattle.question_form.specs.FrameViews as frames
use Rattle.question_form.specs.FrameViews.{frame_unrolled_of}
use Rattle.question_form.specs.Views.{point_of, points_of, unrolled_of}
use Rattle.unroller.specs.Lookups.{PointsAreAt, FormsAreRight}

same_length : (u : Unrolled) (ps : List Point) → length (points_of u ps) ≡ length ps
same_length u [] = refl
same_length u (q ∷ ps) = ap suc (same_length u ps)

looked_up : (u : Unrolled) (ps : List Point) (i : ℕ) (q : Point) → slice_get ps i ≡ Some q → get_or (points_of u ps) i no_point ≡ point_of u q (drop (suc i) ps)
looked_up u [] i q h = absurd (cc)
looked_up u (x ∷ ps) zero q h = let e : x ≡ q = cc in ap (λ (z : Point). point_of u z ps) e
looked_up u (x ∷ ps) (suc i) q h = looked_up u ps i q h

pub points_are_at : PointsAreAt
points_are_at u = (
  same_length u u.points.items,
  (λ i q h. looked_up u u.points.items i q h ∙ ap (λ (z : ℕ). point_of u q (drop z u.points.items)) (let e : suc i ≡ i + 1 = omega arith in e)),
)

frame_length : (u : Unrolled) (ps : List Point) → length (frames.points_of u ps) ≡ length ps
frame_length u [] = refl
frame_length u (q ∷ ps) = ap suc (frame_length u ps)

frame_looked_up : (u : Unrolled) (ps : List Point) (i : ℕ) (q : Point) → slice_get ps i ≡ Some q →
    get_or (frames.points_of u ps) i walk.no_point ≡ frames.point_of u q (drop (suc i) ps)
frame_looked_up u [] i q h = absurd (cc)
frame_looked_up u (x ∷ ps) zero q h = let e : x ≡ q = cc in ap (λ (z : Point). frames.point_of u z ps) e
frame_looked_up u (x ∷ ps) (suc i) q h = frame_looked_up u ps i q h

-- so in an unrolled frame
pub frame_points_are_at : (u : Unrolled) →
    (length (frame_unrolled_of u).points ≡ length u.points.items)
    × ((i : ℕ) (q : Point) → slice_get u.points.items i ≡ Some q → walk.point_at (frame_unrolled_of u) i ≡ frames.point_of u q (drop (i + 1) u.points.items))
frame_points_are_at u = (
  frame_length u u.points.items,
  (λ i q h. frame_looked_up u u.points.items i q h
      ∙ ap (λ (z : ℕ). frames.point_of u q (drop z u.points.items)) (let e : suc i ≡ i + 1 = omega arith in e)),
)

-- an address at a place is the same in both
pub frame_words : (u : Unrolled) → ((i : ℕ) → i < length (unrolled_of u).points → (point_at (unrolled_of u) i).point.at < 2 ^ 32) →
    (i : ℕ) → i < length (frame_unrolled_of u).points → (walk.point_at (frame_unrolled_of u) i).point.at < 2 ^ 32
frame_words u words i l =
    let none : Point = record { root = 0; turns = 0; code = 0; stack = 0; deed = Row; edges = 0 } in
    let q = get_or u.points.items i none in
    let c = frame_length u u.points.items in
    let d = same_length u u.points.items in
    let is : slice_get u.points.items i ≡ Some q = slice_get-get_or u.points.items i none (omega arith) in
    let here = words i (omega arith) in
    let a = ap (λ z. z.point.at) ((frame_points_are_at u).1 i q is) in
    let b = ap (λ z. z.point.at) ((points_are_at u).1 i q is) in
    subst (λ (z : ℕ). z < 2 ^ 32) (b ∙ sym a) here

one_more : (r n c : ℕ) (b : Bool) → b ≡ (nat_le (n + 1) r && nat_lt r (n + 1 + c)) → (nat_eq r n || b) ≡ (nat_le n r && nat_lt r (n + suc c))
one_more r n c b e = grind (arith, nat_tests)

in_form : (r n c : ℕ) → list_any (nat_eq r) (from_to n c) ≡ (nat_le n r && nat_lt r (n + c))
in_form r n zero = grind (arith, nat_tests)
in_form r n (suc c) = one_more r n c (list_any (nat_eq r) (from_to (n + 1) c)) (in_form r (n + 1) c)

pub count_of : (n count : ℕ) → length (from_to n count) ≡ count
count_of n zero = refl
count_of n (suc count) = let e = count_of (n + 1) count in omega arith

at_form : (n c i : ℕ) → i < c → get_or (from_to n c) i 0 ≡ n + i
at_form n zero i h = absurd (omega arith)
at_form n (suc c) zero h = omega arith
at_form n (suc c) (suc i) h = let e = at_form (n + 1) c i (omega arith) in e ∙ omega arith

pub forms_are_right : FormsAreRight
forms_are_right m u fitted =
    let form = layout_of u.form in
    let n = length form.registers in
    record {
      registers = λ r. in_form r form.first n ∙ sym (fitted.registers r);
      rise = λ i j l h. let c = count_of form.first n in let a = at_form form.first n i (omega arith) in let b = at_form form.first n j (omega arith)
          in omega arith;
      flags = λ f. sym (fitted.flags f);
      laid = record { registers = refl; flags = refl };
    }
