-- Lists that have each element once: no list of elements of another is longer, and two lists of the same elements are permutations.
use Rattle.std.proofs.Common.{◌≡◌, ◌≢◌, ◌⊎◌, inl, inr, ℕ, zero, suc, ◌+◌, ◌≤◌, ◌<◌, refl, ap, sym, ◌∙◌, subst, arith, List, [], ◌∷◌, length, get_or, Option, Some, None, Bool, true, false}
use Rattle.std.specs.Prelude.{slice_get, Contains, ◌==◌, if◌then◌else◌, remove, sum_by}
use Rattle.std.specs.List.Sorted.{IsPermutation}
use Rattle.std.proofs.lemmas.Bool.Decides.{nat_tests}
use Rattle.std.proofs.lemmas.Option.{slice_get-get_or, slice_get_within, get_or_from_slice_get}
use Rattle.std.proofs.lemmas.List.Sorted.{IsPermutation-remove, Contains-permutation, sum_by-IsPermutation}
use Rattle.std.proofs.lemmas.List.Sums.{sum_by-cons}

pub truth : (b : Bool) → (b ≡ true) ⊎ (b ≡ false)
truth true = inl refl
truth false = inr refl

-- each element once
abbrev pub Once : {X : Type 0} → List X → Type 0
Once xs = (i j : ℕ) → i < j → j < length xs → slice_get xs i ≢ slice_get xs j

moved_below : (m last x : ℕ) → x < suc m → last < suc m → x ≢ last → (if x == m then last else x) < m
moved_below m last x a b n = grind (arith, nat_tests)

moved_apart : (m last x y : ℕ) → x ≢ last → y ≢ last → x ≢ y → (if x == m then last else x) ≢ (if y == m then last else y)
moved_apart m last x y a b n = elim (truth (x == m)) [
  | inl t ↦ elim (truth (y == m)) [ inl u ↦ absurd (n (grind (arith, nat_tests))) | inr u ↦ rw (t, u) (λ e. b (sym e)) ]
  | inr t ↦ elim (truth (y == m)) [ inl u ↦ rw (t, u) a | inr u ↦ rw (t, u) n ]
]

pigeons : (m n : ℕ) (f : ℕ → ℕ) → ((i : ℕ) → i < n → f i < m) → ((i j : ℕ) → i < j → j < n → f i ≢ f j) → n ≤ m
pigeons zero zero f b d = omega arith
pigeons zero (suc n) f b d = absurd (let x = b 0 (omega arith) in omega arith)
pigeons (suc m) zero f b d = omega arith
pigeons (suc m) (suc n) f b d =
    let r = pigeons m n (λ i. if f i == m then f n else f i)
    (λ i l. moved_below m (f n) (f i) (b i (omega arith)) (b n (omega arith)) (d i n l (omega arith)))
    (λ i j l h. moved_apart m (f n) (f i) (f j) (d i n (omega arith) (omega arith)) (d j n h (omega arith)) (d i j l (omega arith))) in
    omega arith

module _ {X : Type 0} where
  pub at_in : (xs : List X) (i : ℕ) (x : X) → slice_get xs i ≡ Some x → Contains xs x
  at_in xs i x e = (i, slice_get_within xs i x e, get_or_from_slice_get xs i x x e)

  pub in_at : (xs : List X) (x : X) → Contains xs x → (i : ℕ) × (i < length xs) × (slice_get xs i ≡ Some x)
  in_at xs x (i, h, e) = (i, h, slice_get-get_or xs i x h ∙ ap Some e)

  -- distinct elements of a list are no more than it has
  pub no_longer : (xs ys : List X) → ((y : X) → Contains ys y → Contains xs y) → Once ys → (d : X) → length ys ≤ length xs
  no_longer xs ys inside once d = pigeons (length xs) (length ys) place below apart
    where
      there : (i : ℕ) → i < length ys → slice_get ys i ≡ Some (get_or ys i d)
      there i l = slice_get-get_or ys i d l

      found : (o : Option X) → ((y : X) → o ≡ Some y → Contains xs y) → ℕ
      found None h = 0
      found (Some y) h = (in_at xs y (h y refl)).0

      place : ℕ → ℕ
      place i = found (slice_get ys i) (λ y e. inside y (at_in ys i y e))

      located : (o : Option X) (h : (y : X) → o ≡ Some y → Contains xs y) (y : X) → o ≡ Some y → (found o h < length xs) × (slice_get xs (found o h) ≡ Some y)
      located None h y e = absurd (cc)
      located (Some z) h y e = let q = in_at xs z (h z refl) in (q.1, q.2 ∙ e)

      at_place : (i : ℕ) → i < length ys → (place i < length xs) × (slice_get xs (place i) ≡ Some (get_or ys i d))
      at_place i l = located (slice_get ys i) (λ y e. inside y (at_in ys i y e)) (get_or ys i d) (there i l)

      below : (i : ℕ) → i < length ys → place i < length xs
      below i l = (at_place i l).0

      apart : (i j : ℕ) → i < j → j < length ys → place i ≢ place j
      apart i j l h e =
          once i j l h (there i (omega arith) ∙ sym (at_place i (omega arith)).1 ∙ ap (slice_get xs) e ∙ (at_place j h).1 ∙ sym (there j h))

  once_tail : (x : X) (xs : List X) → Once (x ∷ xs) → Once xs
  once_tail x xs once i j l h e = once (suc i) (suc j) (omega arith) (omega arith) e

  not_in_tail : (x : X) (xs : List X) → Once (x ∷ xs) → ¬ Contains xs x
  not_in_tail x xs once h = let q = in_at xs x h in once 0 (suc q.0) (omega arith) (let l = q.1 in omega arith) (sym q.2)

  head_or_tail : (x : X) (xs : List X) (y : X) → Contains (x ∷ xs) y → (x ≡ y) ⊎ Contains xs y
  head_or_tail x xs y (zero, h, e) = inl e
  head_or_tail x xs y (suc i, h, e) = inr (i, omega arith, e)

  -- a sum over distinct elements of a list is at most that over the list
  pub sum_within : (f : X → ℕ) (xs ys : List X) → Once xs → ((y : X) → Contains xs y → Contains ys y) → sum_by f xs ≤ sum_by f ys
  sum_within f [] ys once inside = omega arith
  sum_within f (x ∷ xs) ys once inside =
      let place = inside x (0, omega arith, refl) in
      let moved : IsPermutation ys (x ∷ remove ys place.0) = IsPermutation-remove ys place.0 x place.1 (sym place.2) in
      let rest = sum_within f xs (remove ys place.0) (once_tail x xs once) (λ y h.
      elim (head_or_tail x (remove ys place.0) y (Contains-permutation ys (x ∷ remove ys place.0) y moved (inside y (after x xs y h)))) [
        | inl e ↦ absurd (not_in_tail x xs once (subst (λ (z : X). Contains xs z) (sym e) h))
        | inr q ↦ q
      ]) in
      let whole : sum_by f (x ∷ remove ys place.0) ≡ sum_by f ys = sum_by-IsPermutation f ys (x ∷ remove ys place.0) moved in
      let left : sum_by f (x ∷ xs) ≡ f x + sum_by f xs = sum_by-cons f x xs in
      let right : sum_by f (x ∷ remove ys place.0) ≡ f x + sum_by f (remove ys place.0) = sum_by-cons f x (remove ys place.0) in
      omega arith
    where
      after : (x : X) (xs : List X) (y : X) → Contains xs y → Contains (x ∷ xs) y
      after x xs y (i, h, e) = (suc i, omega arith, e)

  -- two lists of the same elements, each once, have one sum
  pub same_sum : (f : X → ℕ) (xs ys : List X) → Once xs → Once ys → ((y : X) → Contains xs y → Contains ys y) → ((y : X) → Contains ys y → Contains xs y) →
      sum_by f xs ≡ sum_by f ys
  same_sum f xs ys a b to from = let l = sum_within f xs ys a to in let r = sum_within f ys xs b from in omega arith
