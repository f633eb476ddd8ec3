-- Points in their order, and their numbers.
use Rattle.std.proofs.Common.{◌≡◌, ℕ, zero, suc, ◌+◌, ◌≤◌, ◌<◌, ◌^◌, refl, ap, sym, ◌∙◌, subst, arith, Bool, true, false, List, [], ◌∷◌, None, Some, length, map, Contains, inl, inr, get_or, is_lt}
use Rattle.std.specs.Prelude.{◌≢◌, ◌==◌, slice_get, slice_index, sum_by, AllPairs}
use Rattle.std.specs.Cmp.{IsStrictWeakOrder}
use Rattle.std.specs.List.Sorted.{IsPermutation}
use Rattle.std.proofs.lemmas.Bool.{cases_order}
use Rattle.std.proofs.lemmas.Bool.Decides.{nat_tests}
use Rattle.std.proofs.lemmas.Cmp.{nat_list_cmp_total}
use Rattle.std.proofs.lemmas.List.{get_or_default, get_or-map, length-map}
use Rattle.std.proofs.lemmas.List.Elements.{Contains-get_or}
use Rattle.std.proofs.lemmas.List.MinMax.{ranks_by}
use Rattle.std.proofs.lemmas.List.Sorted.{All-permutation, Contains-permutation, length_permutation, sorted_far, sum_by-IsPermutation}
use Rattle.std.proofs.lemmas.List.Sums.{sum_by-cons, get_or-le-sum_by}
use Rattle.std.proofs.lemmas.Option.{slice_get_within, slice_get-get_or, get_or_from_slice_get}
use Rattle.frame_spec.specs.FramePoints.{AtEntry, Point}
use Rattle.frame_spec.specs.FrameScripts.{is_frame_point_below}
use Rattle.word_spec.specs.Words.{bit}
use Rattle.program_points.specs.declared.values.Frame.{Frame}
use Rattle.smtlib_print.specs.Numbered.{AreOnce, AreRanks}
use Rattle.smtlib_print.specs.Orders.{AreInverse, ArePlaced, AreSorted, placed_order, placed_point, point_key}
use Rattle.smtlib_print.specs.declared.ordering.Placed.{Placed}
use Rattle.smtlib_print.proofs.Below.{below_by_order, frame_point_itself}

-- two elements count for no more than all
two_count : (f : Placed → ℕ) (xs : List Placed) (i j : ℕ) (d : Placed) → i < j → j < length xs → f (get_or xs i d) + f (get_or xs j d) ≤ sum_by f xs
two_count f [] i j d l m = absurd (omega (arith, m))
two_count f (x ∷ xs) i zero d l m = absurd (omega (arith, l))
two_count f (x ∷ xs) zero (suc j) d l m = let a = sum_by-cons f x xs in let b = get_or-le-sum_by f xs j d (omega (arith, m)) in omega arith
two_count f (x ∷ xs) (suc i) (suc j) d l m =
    let a = sum_by-cons f x xs in let b = two_count f xs i j d (omega (arith, l)) (omega (arith, m)) in omega arith

-- one of the points that stand in the order of their places from a number on has a given place
counts_none : (p a : ℕ) (xs : List Placed) → p < a → ((i : ℕ) (d : Placed) → i < length xs → (get_or xs i d).place ≡ a + i) →
    sum_by (λ x. bit (x.place == p)) xs ≡ 0
counts_none p a [] l h = refl
counts_none p a (x ∷ xs) l h =
    let e : x.place ≡ a + 0 = h 0 x (omega arith) in
    let t : (x.place == p) ≡ false = grind (arith, nat_tests) in
    let r = counts_none p (suc a) xs (omega (arith, l)) (λ i d m. (let q = h (suc i) d (omega (arith, m)) in omega arith)) in
    let c = sum_by-cons (λ (y : Placed). bit (y.place == p)) x xs in
    let f : bit (x.place == p) ≡ 0 = ap bit t in omega (arith, c, f, r)

counted : (p a : ℕ) (x : Placed) (xs : List Placed) (b : Bool) → (x.place == p) ≡ b → x.place ≡ a →
    (p < suc a → sum_by (λ x. bit (x.place == p)) xs ≡ 0) → sum_by (λ x. bit (x.place == p)) xs ≤ 1 → sum_by (λ x. bit (x.place == p)) (x ∷ xs) ≤ 1
counted p a x xs true t e none one =
    let same : x.place ≡ p = grind (arith, nat_tests) in
    let r = none (omega (arith, same, e)) in
    let c = sum_by-cons (λ (y : Placed). bit (y.place == p)) x xs in
    let f : bit (x.place == p) ≡ 1 = ap bit t in omega (arith, r, c, f)
counted p a x xs false t e none one =
    let c = sum_by-cons (λ (y : Placed). bit (y.place == p)) x xs in
    let f : bit (x.place == p) ≡ 0 = ap bit t in omega (arith, one, c, f)

counts_one : (p a : ℕ) (xs : List Placed) → ((i : ℕ) (d : Placed) → i < length xs → (get_or xs i d).place ≡ a + i) →
    sum_by (λ x. bit (x.place == p)) xs ≤ 1
counts_one p a [] h = omega arith
counts_one p a (x ∷ xs) h =
    let e : x.place ≡ a + 0 = h 0 x (omega arith) in
    let next : (i : ℕ) (d : Placed) → i < length xs → (get_or xs i d).place ≡ suc a + i =
    λ i d m. (let q = h (suc i) d (omega (arith, m)) in omega (arith, q)) in
    counted p a x xs (x.place == p) refl (omega (arith, e)) (λ l. counts_none p (suc a) xs l next) (counts_one p (suc a) xs next)

module _ (all : List Point) (frames : List Frame) (placed order : List Placed) (numbers : List ℕ) (apart : AreOnce all) (are : ArePlaced all frames placed)
    (moved : IsPermutation placed order) (sorted : AreSorted frames order) (inverse : AreInverse order numbers) (count : length numbers ≡ length order)
    (few : length order < 2 ^ 32) where
  none : Placed
  none = record { root = None; turns = 0; stack = 0; at = 0; contract = false; place = 0 }

  no_point : Point
  no_point = record { anchor = AtEntry; turns = 0; contract = false; stack = []; at = 0 }

  long : length order ≡ length all
  long = length_permutation placed order moved ∙ are.0

  -- each is the point at its place
  abbrev IsHere : Placed → Type 0
  IsHere x = (x.place < length all) × (slice_get all x.place ≡ Some (placed_point frames x))

  here : (i : ℕ) (d : Placed) → i < length order → IsHere (get_or order i d)
  here = All-permutation IsHere placed order moved (λ i d l. (let q = are.1 i d l in
      (omega (arith, q.0, l, are.0), ap (slice_get all) q.0 ∙ q.1)))

  -- each place is that of one of them
  found : (i : ℕ) → i < length all → (j : ℕ) × (j < length order) × ((get_or order j none).place ≡ i)
  found i l =
      let small : i < length placed = omega (arith, l, are.0) in
      let c = Contains-permutation placed order (get_or placed i none) moved (Contains-get_or placed i none small) in
      let e = get_or_default order c.0 none (get_or placed i none) c.1 ∙ c.2 in
      (c.0, c.1, ap (λ (x : Placed). x.place) e ∙ (are.1 i none small).0)

  -- and of no other
  distinct : (i j : ℕ) → i < j → j < length order → (get_or order i none).place ≢ (get_or order j none).place
  distinct i j l m e =
      let p = (get_or order j none).place in
      let f : Placed → ℕ = λ x. bit (x.place == p) in
      let one = counts_one p 0 placed (λ k d n. (let q = (are.1 k d n).0 in omega (arith, q))) in
      let same = sum_by-IsPermutation (λ (x : Placed). bit (x.place == p)) placed order moved in
      let two = two_count (λ (x : Placed). bit (x.place == p)) order i j none l m in
      let a : ((get_or order i none).place == p) ≡ true = grind (arith, nat_tests) in
      let b : ((get_or order j none).place == p) ≡ true = grind (arith, nat_tests) in
      let c : bit ((get_or order i none).place == p) ≡ 1 = ap bit a in
      let d : bit ((get_or order j none).place == p) ≡ 1 = ap bit b in
      omega arith

  -- points at two places are two
  apart_points : (i j : ℕ) → i < length all → j < length all → i ≢ j → slice_get all i ≡ slice_get all j → ⊥
  apart_points i j l m n e = elim (cases_order i j) [
    | inl t ↦ n t
    | inr t ↦ elim t [ inl a ↦ apart i j a m e | inr a ↦ apart j i a l (sym e) ]
  ]

  -- the points in their order
  abbrev points : List Point
  points = map (placed_point frames) order

  point_is : (i : ℕ) (d : Point) → i < length order → get_or points i d ≡ placed_point frames (get_or order i none)
  point_is i d l = get_or-map (placed_point frames) order i none d l

  points_long : length points ≡ length order
  points_long = length-map order (placed_point frames)

  weak : IsStrictWeakOrder (λ (x y : Placed). is_lt (placed_order frames x y))
  weak = ranks_by nat_list_cmp_total (λ (x : Placed). point_key (placed_point frames x))

  rise : AllPairs (λ x y. is_frame_point_below x y ≡ true) points
  rise i j d l m =
      let n : j < length order = omega (arith, m, points_long) in
      let k : i < length order = omega (arith, l, n) in
      let h = sorted_far (λ (x y : Placed). is_lt (placed_order frames x y)) weak order sorted i j none (omega (arith, l)) n in
      let a = here i none k in
      let b = here j none n in
      let below = below_by_order (placed_point frames (get_or order i none)) (placed_point frames (get_or order j none)) h
      (λ e. apart_points (get_or order i none).place (get_or order j none).place a.0 b.0 (distinct i j l n) (a.1 ∙ ap Some e ∙ sym b.1)) in
      ap (λ x. is_frame_point_below x (get_or points j d)) (point_is i d k)
      ∙ ap (λ x. is_frame_point_below (placed_point frames (get_or order i none)) x) (point_is j d n)
      ∙ below

  same_to : (q : Point) → Contains points q → Contains all q
  same_to q c =
      let l : c.0 < length order = omega (arith, c.1, points_long) in
      let h = here c.0 none l in (
        (get_or order c.0 none).place,
        h.0,
        get_or_from_slice_get all (get_or order c.0 none).place (placed_point frames (get_or order c.0 none)) q h.1 ∙ sym (point_is c.0 q l) ∙ c.2,
      )

  same_from : (q : Point) → Contains all q → Contains points q
  same_from q c =
      let j = found c.0 c.1 in
      let h = here j.0 none j.1 in (
        j.0,
        omega (arith, j.1, points_long),
        point_is j.0 q j.1 ∙ sym (get_or_from_slice_get all (get_or order j.0 none).place (placed_point frames (get_or order j.0 none)) q h.1)
            ∙ ap (λ m. get_or all m q) j.2 ∙ c.2,
      )

  -- the number of a place
  number_is : (i : ℕ) → i < length numbers → (slice_index numbers i < length order) × ((get_or order (slice_index numbers i) none).place ≡ i)
  number_is i l =
      let j = found i (omega (arith, l, count, long)) in
      subst (λ (m : ℕ). (slice_index numbers m < length order) × ((get_or order (slice_index numbers m) none).place ≡ m)) j.2 (inverse j.0 none j.1)

  number_at : (i : ℕ) → i < length numbers → slice_get points (slice_index numbers i) ≡ slice_get all i
  number_at i l =
      let n = number_is i l in
      slice_get-get_or points (slice_index numbers i) no_point (omega (arith, n.0, points_long))
      ∙ ap Some (point_is (slice_index numbers i) no_point n.0) ∙ sym (here (slice_index numbers i) none n.0).1 ∙ ap (slice_get all) n.1

  once_by : (n m : ℕ) (q : Point) → n < m → slice_get points n ≡ Some q → slice_get points m ≡ Some q → ⊥
  once_by n m q l e f =
      let w = slice_get_within points m q f in
      let h = rise n m q l w in
      let a = get_or_from_slice_get points n q q e in
      let b = get_or_from_slice_get points m q q f in
      let t : true ≡ false = sym h ∙ ap (λ x. is_frame_point_below x (get_or points m q)) a ∙ ap (λ x. is_frame_point_below q x) b
      ∙ frame_point_itself q in cc

  number_once : (i n : ℕ) → i < length numbers → slice_get points n ≡ slice_get all i → n ≡ slice_index numbers i
  number_once i n l e =
      let q = get_or all i no_point in
      let is : slice_get all i ≡ Some q = slice_get-get_or all i no_point (omega (arith, l, count, long)) in
      elim (cases_order n (slice_index numbers i)) [
        | inl t ↦ t
        | inr t ↦ elim t [
          | inl a ↦ absurd (once_by n (slice_index numbers i) q a (e ∙ is) (number_at i l ∙ is))
          | inr a ↦ absurd (once_by (slice_index numbers i) n q a (number_at i l ∙ is) (e ∙ is))
        ]
      ]

  pub are_ranks : AreRanks all numbers
  are_ranks = (
    points,
    record {
      in_order = record { same = λ q. (same_to q, same_from q); order = rise };
      count = count ∙ long;
      few = omega (arith, few, points_long);
      within = λ i l. omega (arith, (number_is i l).0, points_long);
      at = number_at;
      distinct = λ i j l m e. (let a = number_is i (omega (arith, l, m)) in let b = number_is j m in
          let s : i ≡ j = sym a.1 ∙ ap (λ n. (get_or order n none).place) e ∙ b.1 in omega (arith, s, l));
      once = number_once;
    },
  )
