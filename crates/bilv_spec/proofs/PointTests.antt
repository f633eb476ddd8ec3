-- A test by computation that a list has all points of a program, each once.
use Rattle.std.proofs.Common.{◌≡◌, ◌≢◌, ◌⊎◌, inl, inr, ℕ, zero, suc, ◌≤◌, ◌<◌, refl, ap, sym, ◌∙◌, subst, arith, List, [], ◌∷◌, length, Bool, true, false}
use Rattle.std.specs.Prelude.{Contains, slice_get, ◌==◌, ◌&&◌, ◌||◌, not, nat_le}
use Rattle.std.specs.List.{list_any, list_all}
use Rattle.std.specs.Str.{bytes_eq}
use Rattle.std.proofs.lemmas.Bool.Decides.{nat_tests}
use Rattle.std.proofs.lemmas.Slice.Eq.{bytes_eq-Decides}
use Rattle.bilv_spec.specs.Run.{Program}
use Rattle.bilv_spec.specs.Points.{Point, EdgeEnd, ToAddress, ToExit, end_of, edges, IsPoint, first, next, ArePoints}
use Rattle.bilv_spec.proofs.Pigeons.{truth, at_in}
use Rattle.bilv_spec.proofs.PointSteps.{same_number, same_list, and_both, here, there}

abbrev pub same_point : Point → Point → Bool
same_point x y = (x.turns == y.turns) && (bytes_eq x.stack y.stack && (x.at == y.at))

abbrev pub has : List Point → Point → Bool
has xs x = list_any (same_point x) xs

-- a point's edges within k transfers lead to points of the list
abbrev pub ends_in : ℕ → List Point → Point → EdgeEnd → Bool
ends_in k xs x ToExit = true
ends_in k xs x (ToAddress stack a) = not (nat_le (end_of x stack a).turns k) || has xs (end_of x stack a)

abbrev pub is_closed : Program → ℕ → List Point → Bool
is_closed p k xs = list_all (λ x. list_all (ends_in k xs x) (edges p x)) xs

-- each point is the end of an edge of one before it
abbrev pub is_end : ℕ → Point → Point → EdgeEnd → Bool
is_end k x y ToExit = false
is_end k x y (ToAddress stack a) = nat_le (end_of x stack a).turns k && same_point (end_of x stack a) y

abbrev pub is_reached : Program → ℕ → List Point → List Point → Bool
is_reached p k done [] = true
is_reached p k done (y ∷ ys) = list_any (λ x. list_any (is_end k x y) (edges p x)) done && is_reached p k (y ∷ done) ys

abbrev pub is_once : List Point → Bool
is_once [] = true
is_once (x ∷ xs) = not (has xs x) && is_once xs

abbrev pub first_point : Program → Point
first_point p = record { turns = 0; stack = []; at = p.entry }

abbrev pub are_points : Program → ℕ → List Point → Bool
are_points p k ys = is_closed p k (first_point p ∷ ys) && (is_reached p k (first_point p ∷ []) ys && is_once (first_point p ∷ ys))

pub same_point_is : (x y : Point) → same_point x y ≡ true → x ≡ y
same_point_is x y h =
    let a = and_both (x.turns == y.turns) (bytes_eq x.stack y.stack && (x.at == y.at)) h in
    let b = and_both (bytes_eq x.stack y.stack) (x.at == y.at) a.1 in
    let t = same_number x.turns y.turns a.0 in
    let s = same_list x.stack y.stack b.0 in
    let i = same_number x.at y.at b.1 in
    ap (λ z. record { turns = z; stack = x.stack; at = x.at }) t ∙ ap (λ z. record { turns = y.turns; stack = z; at = x.at }) s ∙ ap
    (λ z. record { turns = y.turns; stack = y.stack; at = z }) i

module _ {X : Type 0} where
  any_by : (f : X → Bool) (x : X) (xs : List X) (b : Bool) → f x ≡ b → (list_any f xs ≡ true → (y : X) × Contains xs y × (f y ≡ true)) →
      (b || list_any f xs) ≡ true →
      (y : X) × Contains (x ∷ xs) y × (f y ≡ true)
  any_by f x xs true e g q = (x, here x xs, e)
  any_by f x xs false e g q = let r = g q in (r.0, there x xs r.0 r.1, r.2)

  pub any_is : (f : X → Bool) (xs : List X) → list_any f xs ≡ true → (x : X) × Contains xs x × (f x ≡ true)
  any_is f [] h = absurd (let c : false ≡ true = h in cc)
  any_is f (x ∷ xs) h = any_by f x xs (f x) refl (any_is f xs) h

  all_is : (f : X → Bool) (xs : List X) → list_all f xs ≡ true → (x : X) → Contains xs x → f x ≡ true
  all_is f [] h x (i, l, e) = absurd (omega arith)
  all_is f (y ∷ xs) h x (zero, l, e) = ap f (sym e) ∙ (and_both (f y) (list_all f xs) h).0
  all_is f (y ∷ xs) h x (suc i, l, e) = all_is f xs (and_both (f y) (list_all f xs) h).1 x (i, omega arith, e)

  pub not_any : (f : X → Bool) (xs : List X) → list_any f xs ≡ false → (x : X) → Contains xs x → f x ≡ true → ⊥
  not_any f [] h x (i, l, e) t = absurd (omega arith)
  not_any f (y ∷ xs) h x (zero, l, e) t = let q : true ≡ false = ap (λ z. z || list_any f xs) (sym (ap f e ∙ t)) ∙ h in cc
  not_any f (y ∷ xs) h x (suc i, l, e) t = not_any f xs (rest (f y) (list_any f xs) h) x (i, omega arith, e) t
    where
      rest : (b c : Bool) → (b || c) ≡ false → c ≡ false
      rest true c h = absurd (let q : true ≡ false = h in cc)
      rest false c h = h

has_is : (xs : List Point) (x : Point) → has xs x ≡ true → Contains xs x
has_is xs x h = let q = any_is (same_point x) xs h in subst (λ (z : Point). Contains xs z) (sym (same_point_is x q.0 q.2)) q.1

not_true : (b : Bool) → not b ≡ true → b ≡ false
not_true true h = absurd (let c : false ≡ true = h in cc)
not_true false h = refl

pub same_point_self : (x : Point) → same_point x x ≡ true
same_point_self x = by (truth (bytes_eq x.stack x.stack))
  where
    by : (bytes_eq x.stack x.stack ≡ true) ⊎ (bytes_eq x.stack x.stack ≡ false) → same_point x x ≡ true
    by (inl e) = let a : (x.turns == x.turns) ≡ true = grind (arith, nat_tests) in let b : (x.at == x.at) ≡ true = grind (arith, nat_tests) in rw (a, e, b) refl
    by (inr e) = absurd (grind (arith, bytes_eq-Decides))

module _ (p : Program) (k : ℕ) where
  closed_on : (xs : List Point) → is_closed p k xs ≡ true → (x : Point) → Contains xs x → (stack : List ℕ) (a : ℕ) → Contains (edges p x) (ToAddress stack a) →
      (end_of x stack a).turns ≤ k →
      Contains xs (end_of x stack a)
  closed_on xs c x h stack a e l =
      let t = all_is (ends_in k xs x) (edges p x) (all_is (λ x. list_all (ends_in k xs x) (edges p x)) xs c x h) (ToAddress stack a) e in
      let w : nat_le (end_of x stack a).turns k ≡ true = grind (arith, nat_tests) in
      has_is xs (end_of x stack a) (ap (λ z. not z || has xs (end_of x stack a)) (sym w) ∙ t)

  all_in : (xs : List Point) → is_closed p k xs ≡ true → Contains xs (first_point p) → (x : Point) → IsPoint p k x → Contains xs x
  all_in xs c f x first = f
  all_in xs c f x (next {point} {stack} {a} h e l) = closed_on xs c point (all_in xs c f point h) stack a e l

  end_point : (x y : Point) (t : EdgeEnd) → IsPoint p k x → Contains (edges p x) t → is_end k x y t ≡ true → IsPoint p k y
  end_point x y ToExit h e i = absurd (let c : false ≡ true = i in cc)
  end_point x y (ToAddress stack a) h e i =
      let q = and_both (nat_le (end_of x stack a).turns k) (same_point (end_of x stack a) y) i in
      let l : (end_of x stack a).turns ≤ k = grind (arith, nat_tests) in
      subst (λ (z : Point). IsPoint p k z) (same_point_is (end_of x stack a) y q.1) (next h e l)

  reached : (ys done : List Point) → ((x : Point) → Contains done x → IsPoint p k x) → is_reached p k done ys ≡ true → (y : Point) → Contains ys y →
      IsPoint p k y
  reached [] done old h y (i, l, e) = absurd (omega arith)
  reached (y ∷ ys) done old h x c =
      let q = and_both (list_any (λ x. list_any (is_end k x y) (edges p x)) done) (is_reached p k (y ∷ done) ys) h in
      let s = any_is (λ x. list_any (is_end k x y) (edges p x)) done q.0 in
      let t = any_is (is_end k s.0 y) (edges p s.0) s.2 in
      let new : IsPoint p k y = end_point s.0 y t.0 (old s.0 s.1) t.1 t.2 in
      by new (λ x c. reached ys (y ∷ done) (more new) q.1 x c) x c
    where
      more : IsPoint p k y → (x : Point) → Contains (y ∷ done) x → IsPoint p k x
      more new x (zero, l, e) = subst (λ (z : Point). IsPoint p k z) e new
      more new x (suc i, l, e) = old x (i, omega arith, e)

      by : IsPoint p k y → ((x : Point) → Contains ys x → IsPoint p k x) → (x : Point) → Contains (y ∷ ys) x → IsPoint p k x
      by new r x (zero, l, e) = subst (λ (z : Point). IsPoint p k z) e new
      by new r x (suc i, l, e) = r x (i, omega arith, e)

once_is : (xs : List Point) → is_once xs ≡ true → (i j : ℕ) → i < j → j < length xs → slice_get xs i ≢ slice_get xs j
once_is [] h i j l g e = absurd (omega arith)
once_is (x ∷ xs) h i zero l g e = absurd (omega arith)
once_is (x ∷ xs) h zero (suc j) l g e =
    let q = and_both (not (has xs x)) (is_once xs) h in
    not_any (same_point x) xs (not_true (has xs x) q.0) x (at_in xs j x (sym e)) (same_point_self x)
once_is (x ∷ xs) h (suc i) (suc j) l g e = once_is xs (and_both (not (has xs x)) (is_once xs) h).1 i j (omega arith) (omega arith) e

-- a list that passes the test has all points
pub points_by_test : (p : Program) (k : ℕ) (ys : List Point) → are_points p k ys ≡ true → ArePoints p k (first_point p ∷ ys)
points_by_test p k ys h =
    let xs : List Point = first_point p ∷ ys in
    let a = and_both (is_closed p k xs) (is_reached p k (first_point p ∷ []) ys && is_once xs) h in
    let b = and_both (is_reached p k (first_point p ∷ []) ys) (is_once xs) a.1 in
    record {
      all = all_in p k xs a.0 (here (first_point p) ys);
      only = λ x c. by b.0 x c;
      once = once_is xs b.1;
    }
  where
    start : (x : Point) → Contains (first_point p ∷ []) x → IsPoint p k x
    start x (zero, l, e) = subst (λ (z : Point). IsPoint p k z) e first
    start x (suc i, l, e) = absurd (omega arith)

    by : is_reached p k (first_point p ∷ []) ys ≡ true → (x : Point) → Contains (first_point p ∷ ys) x → IsPoint p k x
    by r x (zero, l, e) = subst (λ (z : Point). IsPoint p k z) e first
    by r x (suc i, l, e) = reached p k ys (first_point p ∷ []) start r x (i, omega arith, e)
