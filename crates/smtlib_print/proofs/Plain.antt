-- The numbers of the points of a program: as points of a frame they are all of the entry's segment.
use Rattle.std.proofs.Common.{◌≡◌, ℕ, zero, suc, ◌<◌, ap, sym, ◌∙◌, subst, refl, arith, true, false, Bool, List, [], ◌∷◌, Some, length, map, Contains, get_or}
use Rattle.std.specs.Prelude.{slice_get, slice_index, AllPairs, ◌&&◌, ◌||◌}
use Rattle.std.proofs.lemmas.List.{get_or-map, length-map}
use Rattle.std.specs.Option.{option_map}
use Rattle.std.proofs.lemmas.Option.{slice_get_within, slice_get-get_or, slice_get-map, get_or_from_slice_get}
use Rattle.bilv_spec.specs.Points.{Point}
use Rattle.bilv_spec.specs.Scripts.{is_point_below}
use Rattle.frame_laws.specs.HeadlessLaws.{as_point}
use Rattle.frame_spec.specs.FramePoints as frames
use Rattle.frame_spec.specs.FramePoints.{triple}
use Rattle.frame_spec.specs.FrameScripts.{is_frame_point_below, is_same_triple}
use Rattle.question_form.specs.declared.unrolled.Point as declared
use Rattle.question_form.specs.declared.unrolled.Unrolled.{Unrolled}
use Rattle.question_form.specs.Views.{points_of, unrolled_of}
use Rattle.walk_spec.specs.Unrolled.{UnrolledPoint, UnrolledProgram, no_point, point_at}
use Rattle.smtlib_print.specs.Numbered.{AreApart, AreNumbersOf, AreOnce, AreRanked, AreRanks}
use Rattle.smtlib_print.specs.Orders.{point_by, points_by}

-- the points of a program
abbrev points_in : UnrolledProgram → List Point
points_in u = map (λ q. q.point) u.points

-- a list of what is made of another by a function, element by element
get_map : {X Y : Type 0} (f : X → Y) (xs : List X) (i : ℕ) (x : X) → slice_get xs i ≡ Some x → slice_get (map f xs) i ≡ Some (f x)
get_map f xs i x e = slice_get-map f xs i ∙ ap (option_map f) e

some_at : {X : Type 0} (xs : List X) (i : ℕ) → i < length xs → (x : X) × (slice_get xs i ≡ Some x)
some_at [] i l = absurd (omega (arith, l))
some_at (y ∷ ys) zero l = (y, refl)
some_at (y ∷ ys) (suc i) l = some_at ys i (omega (arith, l))

only_first : (a b : Bool) → (a || (b && false)) ≡ a
only_first true b = refl
only_first false true = refl
only_first false false = refl

-- where no contract step is made, and in the entry's segment, the order is that of the points of a program
plain_below : (x y : Point) → is_frame_point_below (as_point x) (as_point y) ≡ is_point_below x y
plain_below x y = only_first (is_point_below x y) (is_same_triple (as_point x) (as_point y))

-- a list of some points of frames, all of the entry's segment
module _ (all : List Point) (points : List frames.Point) (numbers : List ℕ) (are : AreRanked (map as_point all) points numbers) where
  -- each is one of a program
  plain : (n : ℕ) (q : frames.Point) → slice_get points n ≡ Some q → q ≡ as_point (triple q)
  plain n q e =
      let l = slice_get_within points n q e in
      let c = (are.in_order.same q).0 (n, l, get_or_from_slice_get points n q q e) in
      let k : c.0 < length all = omega (arith, c.1, length-map all as_point) in
      let x = some_at all c.0 k in
      let is : q ≡ as_point x.0 =
      sym c.2 ∙ get_or_from_slice_get (map as_point all) c.0 (as_point x.0) q (get_map as_point all c.0 x.0 x.1) in
      is ∙ sym (ap (λ z. as_point (triple z)) is)

  abbrev flat : List Point
  flat = map triple points

  flat_count : length flat ≡ length points
  flat_count = length-map points triple

  -- the order of the points as those of the program
  flat_rise : AllPairs (λ x y. is_point_below x y ≡ true) flat
  flat_rise i j d l m =
      let n : j < length points = omega (arith, m, flat_count) in
      let k : i < length points = omega (arith, l, n) in
      let x = some_at points i k in
      let y = some_at points j n in
      let a : get_or points i (as_point d) ≡ x.0 = get_or_from_slice_get points i x.0 (as_point d) x.1 in
      let b : get_or points j (as_point d) ≡ y.0 = get_or_from_slice_get points j y.0 (as_point d) y.1 in
      let below : is_frame_point_below (as_point (triple x.0)) (as_point (triple y.0)) ≡ true =
      sym (ap (λ z. is_frame_point_below z (get_or points j (as_point d))) (a ∙ plain i x.0 x.1)
      ∙ ap (λ z. is_frame_point_below (as_point (triple x.0)) z) (b ∙ plain j y.0 y.1))
      ∙ are.in_order.order i j (as_point d) l n in
      ap (λ z. is_point_below z (get_or flat j d)) (get_or_from_slice_get flat i (triple x.0) d (get_map triple points i x.0 x.1))
      ∙ ap (λ z. is_point_below (triple x.0) z) (get_or_from_slice_get flat j (triple y.0) d (get_map triple points j y.0 y.1))
      ∙ sym (plain_below (triple x.0) (triple y.0)) ∙ below

  flat_to : (q : Point) → Contains flat q → Contains all q
  flat_to q c =
      let l : c.0 < length points = omega (arith, c.1, flat_count) in
      let x = some_at points c.0 l in
      let is : q ≡ triple x.0 = sym c.2 ∙ get_or_from_slice_get flat c.0 (triple x.0) q (get_map triple points c.0 x.0 x.1) in
      let there = (are.in_order.same x.0).0 (c.0, l, get_or_from_slice_get points c.0 x.0 x.0 x.1) in
      let k : there.0 < length all = omega (arith, there.1, length-map all as_point) in
      let y = some_at all there.0 k in
      let same : as_point y.0 ≡ x.0 =
      sym (get_or_from_slice_get (map as_point all) there.0 (as_point y.0) x.0 (get_map as_point all there.0 y.0 y.1)) ∙ there.2 in
      (there.0, k, get_or_from_slice_get all there.0 y.0 q y.1 ∙ ap triple same ∙ sym is)

  flat_from : (q : Point) → Contains all q → Contains flat q
  flat_from q c =
      let x = some_at all c.0 c.1 in
      let is : x.0 ≡ q = sym (get_or_from_slice_get all c.0 x.0 q x.1) ∙ c.2 in
      let here : Contains (map as_point all) (as_point x.0) = (
        c.0,
        omega (arith, c.1, length-map all as_point),
        get_or_from_slice_get (map as_point all) c.0 (as_point x.0) (as_point x.0) (get_map as_point all c.0 x.0 x.1),
      ) in
      let there = (are.in_order.same (as_point x.0)).1 here in
      let y = some_at points there.0 there.1 in
      let same : y.0 ≡ as_point x.0 = sym (get_or_from_slice_get points there.0 y.0 (as_point x.0) y.1) ∙ there.2 in (
        there.0,
        omega (arith, there.1, flat_count),
        get_or_from_slice_get flat there.0 (triple y.0) q (get_map triple points there.0 y.0 y.1) ∙ ap triple same ∙ is,
      )

  -- the point of a number
  flat_at : (i : ℕ) (x : Point) → i < length numbers → slice_get all i ≡ Some x → slice_get flat (slice_index numbers i) ≡ Some x
  flat_at i x l e = get_map triple points (slice_index numbers i) (as_point x) (are.at i l ∙ get_map as_point all i x e)

  flat_once : (i n : ℕ) (x : Point) → i < length numbers → slice_get all i ≡ Some x → slice_get flat n ≡ Some x → n ≡ slice_index numbers i
  flat_once i n x l e f =
      let k : n < length points = omega (arith, slice_get_within flat n x f, flat_count) in
      let y = some_at points n k in
      let t : Some (triple y.0) ≡ Some x = sym (get_map triple points n y.0 y.1) ∙ f in
      let same : triple y.0 ≡ x = cc in
      are.once i n l (y.1 ∙ ap Some (plain n y.0 y.1 ∙ ap as_point same) ∙ sym (get_map as_point all i x e))

-- the points of a value as a program
points_are : (u : Unrolled) (qs : List declared.Point) → map as_point (map (λ q. q.point) (points_of u qs)) ≡ map (point_by u false []) qs
points_are u [] = refl
points_are u (q ∷ qs) = ap (λ l. point_by u false [] q ∷ l) (points_are u qs)

program_points : (u : Unrolled) → map as_point (points_in (unrolled_of u)) ≡ points_by u false []
program_points u = points_are u u.points.items

-- no two are one
pub program_once : (u : Unrolled) → AreApart (unrolled_of u) → AreOnce (points_by u false [])
program_once u apart = subst AreOnce (program_points u) (λ i j l m e.
    let all = points_in (unrolled_of u) in
    let n : j < length all = omega (arith, m, length-map all as_point) in
    let x = some_at all i (omega (arith, l, n)) in
    let y = some_at all j n in
    let t : Some (as_point x.0) ≡ Some (as_point y.0) = sym (get_map as_point all i x.0 x.1) ∙ e ∙ get_map as_point all j y.0 y.1 in
    let s : as_point x.0 ≡ as_point y.0 = cc in
    apart i j l n (x.1 ∙ ap (λ z. Some (triple z)) s ∙ sym y.1))

-- the numbers of a program
pub program_numbers : (u : Unrolled) (numbers : List ℕ) → AreRanks (points_by u false []) numbers → AreNumbersOf (unrolled_of u) numbers
program_numbers u numbers ranks =
    let p = unrolled_of u in
    let all = points_in p in
    let are : AreRanked (map as_point all) ranks.0 numbers =
    subst (λ (l : List frames.Point). AreRanked l ranks.0 numbers) (sym (program_points u)) ranks.1 in
    let long : length all ≡ length p.points = length-map p.points (λ (q : UnrolledPoint). q.point) in
    let count : length numbers ≡ length p.points = are.count ∙ length-map all as_point ∙ long in
    let at : (i : ℕ) → i < length numbers → slice_get all i ≡ Some (point_at p i).point =
    λ i l. slice_get-get_or all i no_point.point (omega (arith, l, count, long))
    ∙ ap Some (get_or-map (λ (q : UnrolledPoint). q.point) p.points i no_point no_point.point (omega (arith, l, count))) in (
      flat all ranks.0 numbers are,
      record { same = λ q. (flat_to all ranks.0 numbers are q, flat_from all ranks.0 numbers are q); order = flat_rise all ranks.0 numbers are },
      record {
        count = count;
        few = omega (arith, are.few, flat_count all ranks.0 numbers are);
        within = λ i l. omega (arith, are.within i l, flat_count all ranks.0 numbers are);
        at = λ i l. flat_at all ranks.0 numbers are i (point_at p i).point l (at i l);
        distinct = are.distinct;
        once = λ i n l e. flat_once all ranks.0 numbers are i n (point_at p i).point l (at i l) e;
      },
    )
