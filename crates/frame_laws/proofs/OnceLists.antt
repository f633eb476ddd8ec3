-- Lists that have each element once, and sums over lists of the same elements.
use Rattle.std.proofs.Common.{◌≡◌, ◌⊎◌, inl, inr, ℕ, zero, suc, ◌+◌, refl, ap, sym, ◌∙◌, subst, arith, List, [], ◌∷◌, ◌++◌, length, Bool, true, false}
use Rattle.std.specs.Prelude.{Contains, not, if◌then◌else◌, filter, map, remove, sum_by}
use Rattle.std.specs.List.{flat_map}
use Rattle.std.specs.List.Sorted.{IsPermutation}
use Rattle.std.proofs.lemmas.List.Sorted.{IsPermutation-remove, Contains-permutation, sum_by-IsPermutation}
use Rattle.std.proofs.lemmas.List.Sums.{sum_by-cons, sum_by-append}
use Rattle.bilv_spec.proofs.Pigeons.{Once, at_in, in_at}
use Rattle.bilv_spec.proofs.PointSteps.{here, there, same_end_self}
use Rattle.bilv_spec.proofs.PointsInGraph.{of_filter}
use Rattle.bilv_spec.specs.Notes.{Expr}
use Rattle.bilv_spec.specs.Points.{EdgeEnd, same_end, distinct}

module _ {X : Type 0} where
  pub head_or_tail : (x : X) (xs : List X) (y : X) → Contains (x ∷ xs) y → (x ≡ y) ⊎ Contains xs y
  head_or_tail x xs y (zero, h, e) = inl e
  head_or_tail x xs y (suc i, h, e) = inr (i, omega arith, e)

  -- an element that a list doesn't have can be put before it
  pub once_more : (x : X) (xs : List X) → Once xs → (Contains xs x → ⊥) → Once (x ∷ xs)
  once_more x xs once new zero zero l h e = absurd (omega arith)
  once_more x xs once new zero (suc j) l h e = new (at_in xs j x (sym e))
  once_more x xs once new (suc i) zero l h e = absurd (omega arith)
  once_more x xs once new (suc i) (suc j) l h e = once i j (omega arith) (omega arith) e

  pub once_tail : (x : X) (xs : List X) → Once (x ∷ xs) → Once xs
  once_tail x xs once i j l h e = once (suc i) (suc j) (omega arith) (omega arith) e

  pub not_in_tail : (x : X) (xs : List X) → Once (x ∷ xs) → Contains xs x → ⊥
  not_in_tail x xs once h = let q = in_at xs x h in once 0 (suc q.0) (omega arith) (let l = q.1 in omega arith) (sym q.2)

  filter_once_by : (f : X → Bool) (x : X) (xs : List X) (b : Bool) → (Contains xs x → ⊥) → Once (filter f xs) →
      Once (if b then x ∷ filter f xs else filter f xs)
  filter_once_by f x xs true new h = once_more x (filter f xs) h (λ c. new (of_filter f xs x c).0)
  filter_once_by f x xs false new h = h

  -- what is kept of a list has each once
  pub filter_once : (f : X → Bool) (xs : List X) → Once xs → Once (filter f xs)
  filter_once f [] once = once
  filter_once f (x ∷ xs) once = filter_once_by f x xs (f x) (not_in_tail x xs once) (filter_once f xs (once_tail x xs once))

  -- elements that count nothing may be left out of a sum
  filter_sum_by : (f : X → Bool) (g : X → ℕ) (x : X) (xs : List X) (b : Bool) → (b ≡ false → g x ≡ 0) → sum_by g (filter f xs) ≡ sum_by g xs →
      sum_by g (if b then x ∷ filter f xs else filter f xs) ≡ g x + sum_by g xs
  filter_sum_by f g x xs true h e = sum_by-cons g x (filter f xs) ∙ ap (λ z. g x + z) e
  filter_sum_by f g x xs false h e = let n : g x ≡ 0 = h refl in omega arith

  pub filter_sum : (f : X → Bool) (g : X → ℕ) → ((x : X) → f x ≡ false → g x ≡ 0) → (xs : List X) → sum_by g (filter f xs) ≡ sum_by g xs
  filter_sum f g h [] = refl
  filter_sum f g h (x ∷ xs) = filter_sum_by f g x xs (f x) (h x) (filter_sum f g h xs) ∙ sym (sum_by-cons g x xs)

  ones : (xs : List X) → sum_by (λ x. 1) xs ≡ length xs
  ones [] = refl
  ones (x ∷ xs) = let e = sum_by-cons (λ (y : X). 1) x xs in let r = ones xs in omega arith

  -- a list that has each element of another once, and is as long, has its sum
  pub same_count_sum : (g : X → ℕ) (xs ys : List X) → Once xs → ((x : X) → Contains xs x → Contains ys x) → length ys ≡ length xs →
      sum_by g xs ≡ sum_by g ys
  same_count_sum g [] [] once inside l = refl
  same_count_sum g [] (y ∷ ys) once inside l = absurd (omega arith)
  same_count_sum g (x ∷ xs) ys once inside l =
      let place = inside x (here x xs) in
      let moved : IsPermutation ys (x ∷ remove ys place.0) = IsPermutation-remove ys place.0 x place.1 (sym place.2) in
      let count : length (x ∷ remove ys place.0) ≡ length ys =
      sym (ones (x ∷ remove ys place.0)) ∙ sum_by-IsPermutation (λ (y : X). 1) ys (x ∷ remove ys place.0) moved ∙ ones ys in
      let same = same_count_sum g xs (remove ys place.0) (once_tail x xs once) (λ y h.
      elim (head_or_tail x (remove ys place.0) y (Contains-permutation ys (x ∷ remove ys place.0) y moved (inside y (there x xs y h)))) [
        | inl e ↦ absurd (not_in_tail x xs once (subst (λ (z : X). Contains xs z) (sym e) h))
        | inr q ↦ q
      ]) (omega arith) in
      sum_by-cons g x xs ∙ ap (λ z. g x + z) same ∙ sym (sum_by-cons g x (remove ys place.0)) ∙ sum_by-IsPermutation g ys (x ∷ remove ys place.0) moved

  -- a sum over lists of lines
  pub flat_sum : (g : Expr → ℕ) (h : X → List Expr) (xs : List X) → sum_by g (flat_map h xs) ≡ sum_by (λ x. sum_by g (h x)) xs
  flat_sum g h [] = refl
  flat_sum g h (x ∷ xs) =
      sum_by-append g (h x) (flat_map h xs) ∙ ap (λ z. sum_by g (h x) + z) (flat_sum g h xs) ∙ sym (sum_by-cons (λ x. sum_by g (h x)) x xs)

-- sums and lines of mapped lists
pub mapped_sum : {X Y : Type 0} (to : X → Y) (g : Y → ℕ) (h : X → ℕ) → ((x : X) → g (to x) ≡ h x) → (xs : List X) → sum_by g (map to xs) ≡ sum_by h xs
mapped_sum to g h e [] = refl
mapped_sum to g h e (x ∷ xs) =
    sum_by-cons g (to x) (map to xs) ∙ ap (λ z. z + sum_by g (map to xs)) (e x) ∙ ap (λ z. h x + z) (mapped_sum to g h e xs) ∙ sym (sum_by-cons h x xs)

pub mapped_lines : {X Y : Type 0} (to : X → Y) (g : Y → List Expr) (h : X → List Expr) → ((x : X) → g (to x) ≡ h x) → (xs : List X) →
    flat_map g (map to xs) ≡ flat_map h xs
mapped_lines to g h e [] = refl
mapped_lines to g h e (x ∷ xs) = ap (λ z. z ++ flat_map g (map to xs)) (e x) ∙ ap (λ z. h x ++ z) (mapped_lines to g h e xs)

-- distinct ends are each once
pub distinct_once : (xs : List EdgeEnd) → Once (distinct xs)
distinct_once [] = λ i j l h e. absurd (omega arith)
distinct_once (t ∷ xs) =
    once_more t (filter (λ u. not (same_end t u)) (distinct xs)) (filter_once (λ u. not (same_end t u)) (distinct xs) (distinct_once xs))
    (λ c. (let q = of_filter (λ u. not (same_end t u)) (distinct xs) t c in
    let n : false ≡ true = ap not (sym (same_end_self t)) ∙ q.1 in absurd (cc)))
