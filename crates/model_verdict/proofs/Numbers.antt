-- The points whose choices are declared, by their numbers.
use Rattle.std.proofs.Common.{◌≡◌, ◌≢◌, inl, inr, ℕ, zero, suc, ◌+◌, ◌<◌, Bool, false, List, [], ◌∷◌, Some, length, map, get_or, ap, sym, ◌∙◌, subst, arith}
use Rattle.std.specs.Prelude.{slice_get, slice_index, slice_index_or, slice_set}
use Rattle.std.proofs.lemmas.Bool.{cases_lt}
use Rattle.std.proofs.lemmas.List.{ext_get_or, get_or-map, get_or-set_other, get_or-set_same, length-map, length-set}
use Rattle.std.proofs.lemmas.Option.{slice_get-get_or}
use Rattle.bilv_spec.specs.Run.{Program}
use Rattle.bilv_spec.specs.Points.{Point, file_row}
use Rattle.bilv_spec.specs.Scripts.{draws}
use Rattle.bilv_spec.proofs.Pigeons.{no_longer}
use Rattle.question_form.specs.Views.{no_code, points_of, unrolled_of}
use Rattle.question_form.specs.declared.unrolled.Point as code
use Rattle.question_form.specs.declared.unrolled.Unrolled.{Unrolled}
use Rattle.walk_spec.specs.Unrolled.{UnrolledPoint, UnrolledProgram, no_point, point_at}
use Rattle.walk_spec.specs.Unrolling.{IsUnrolling}
use Rattle.smtlib_print.specs.Scripted.{AreNumbers}
use Rattle.smtlib_print.specs.Told.{AreInOrder}
use Rattle.smtlib_print.proofs.Choices.{points_count}
use Rattle.smtlib_print.proofs.Programs.{numbered, place_draws, place_of}
use Rattle.model_verdict.specs.Readings.{AreDrawn}

-- ---- by place

-- whether the point at a place draws
pub draws_there : (u : Unrolled) (qs : List code.Point) (i : ℕ) (d : code.Point) (b : Bool) → i < length qs → d ≡ get_or qs i d →
    b ≡ (slice_index_or u.codes.items d.code no_code).draws → b ≡ (slice_index_or (points_of u qs) i no_point).draws
draws_there u [] i d b l e f = absurd (omega (arith, l))
draws_there u (q ∷ qs) zero d b l e f = f ∙ ap (λ (x : code.Point). (slice_index_or u.codes.items x.code no_code).draws) e
draws_there u (q ∷ qs) (suc i) d b l e f = draws_there u qs i d b (omega (arith, l)) e f

-- ---- one number more

-- so many places have told whether their points draw
pub record HasDrawn (u : Unrolled) (numbers : List ℕ) (n : ℕ) (drawn : List Bool) : Type 0 where
  pub count : length drawn ≡ length numbers
  pub each : (i : ℕ) → i < n → slice_index_or drawn (slice_index numbers i) false ≡ (point_at (unrolled_of u) i).draws

pub has_no_drawn : (u : Unrolled) (numbers : List ℕ) (drawn : List Bool) → length drawn ≡ length numbers → HasDrawn u numbers 0 drawn
has_no_drawn u numbers drawn e = record { count = e; each = λ i l. absurd (omega (arith, l)) }

pub has_more_drawn : (u : Unrolled) (numbers : List ℕ) (n : ℕ) (drawn : List Bool) (b : Bool) → n < length numbers → length numbers ≡ length u.points.items →
    ((i : ℕ) → i < length numbers → slice_index numbers i < length numbers) →
    ((i j : ℕ) → i < j → j < length numbers → slice_index numbers i ≢ slice_index numbers j) → b ≡ (point_at (unrolled_of u) n).draws →
    HasDrawn u numbers n drawn →
    HasDrawn u numbers (n + 1) (slice_set drawn (slice_index numbers n) b)
has_more_drawn u numbers n drawn b l count within distinct e so_far = record {
  count = length-set drawn (slice_index numbers n) b ∙ so_far.count;
  each = λ i m. elim (cases_lt i n) [
    | inl a ↦ get_or-set_other drawn (slice_index numbers n) (slice_index numbers i) b false (distinct i n a l) ∙ so_far.each i a
    | inr a ↦ (let s : n ≡ i = omega (arith, m, a) in
        subst (λ (j : ℕ). slice_index_or (slice_set drawn (slice_index numbers n) b) (slice_index numbers j) false ≡ (point_at (unrolled_of u) j).draws) s
        (get_or-set_same drawn (slice_index numbers n) b false (let w = within n l in omega (arith, w, so_far.count)) ∙ e))
  ];
}

pub all_drawn : (u : Unrolled) (numbers : List ℕ) (n : ℕ) (drawn : List Bool) → n ≡ length numbers → length numbers ≡ length u.points.items →
    HasDrawn u numbers n drawn → AreDrawn (unrolled_of u) numbers drawn
all_drawn u numbers n drawn e count are =
    let c = points_count u u.points.items in
    record { count = are.count ∙ count ∙ sym c; each = λ i l. are.each i (omega (arith, l, e, count, c)) }

-- ---- the numbers

module _ (p : Program) (k : ℕ) (u : UnrolledProgram) (un : IsUnrolling p k u) (numbers : List ℕ) (points : List Point) (order : AreInOrder u points)
    (are : AreNumbers u points numbers) where
  no_one : Point
  no_one = record { turns = 0; stack = []; at = 0 }

  -- there are as many numbered points as points
  pub as_many : length points ≡ length u.points
  as_many =
      let a = no_longer (map (λ (q : UnrolledPoint). q.point) u.points) points (λ x c. (order.same x).0 c) (numbered p k u un points order).0.once no_one in
      let b = no_longer points (map (λ (q : UnrolledPoint). q.point) u.points) (λ x c. (order.same x).1 c) un.points.once no_one in
      let m = length-map u.points (λ (q : UnrolledPoint). q.point) in
      omega (arith, a, b, m)

  pub within : (i : ℕ) → i < length numbers → slice_index numbers i < length numbers
  within i l = let w = are.within i l in omega (arith, w, as_many, are.count)

  -- the point of a number has a place with this number
  pub at_number : (n : ℕ) (point : Point) → slice_get points n ≡ Some point → (i : ℕ) × (i < length u.points) × ((point_at u i).point ≡ point) ×
      (n ≡ slice_index numbers i)
  at_number n point e =
      let q = place_of p k u un points order n point e in
      (q.0, q.1, q.2, are.once q.0 n (omega (arith, q.1, are.count)) (e ∙ ap Some (sym q.2)))

  -- what is drawn, by number
  module _ (drawn : List Bool) (drawn_are : AreDrawn u numbers drawn) where
    drawn_at : (n : ℕ) → n < length drawn → get_or drawn n false ≡ get_or (map (λ (q : Point). draws (file_row p q.at)) points) n false
    drawn_at n l =
        let m : n < length points = omega (arith, l, as_many, drawn_are.count) in
        let at = at_number n (get_or points n no_one) (slice_get-get_or points n no_one m) in
        ap (λ j. get_or drawn j false) at.3 ∙ drawn_are.each at.0 at.1 ∙ sym (place_draws p k u un at.0 at.1)
        ∙ ap (λ (q : Point). draws (file_row p q.at)) at.2 ∙ sym (get_or-map (λ (q : Point). draws (file_row p q.at)) points n no_one false m)

    pub drawn_is : drawn ≡ map (λ (q : Point). draws (file_row p q.at)) points
    drawn_is =
        ext_get_or false drawn (map (λ (q : Point). draws (file_row p q.at)) points)
        (drawn_are.count ∙ sym as_many ∙ sym (length-map points (λ (q : Point). draws (file_row p q.at)))) drawn_at
