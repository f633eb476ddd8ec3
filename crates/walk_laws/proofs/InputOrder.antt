-- Where each input stands in the list of inputs.
use Rattle.std.proofs.Common.{◌≡◌, ◌⊎◌, inl, inr, refl, ap, sym, ◌∙◌, arith, ℕ, zero, suc, ◌+◌, ◌*◌, ◌<◌, [], ◌∷◌, ◌++◌, List, Some, Bool, true, false, length}
use Rattle.std.specs.Prelude.{Contains, nat_lt, slice_get, slice_index, map, filter, if◌then◌else◌}
use Rattle.std.specs.List.{flat_map}
use Rattle.std.proofs.lemmas.Bool.Decides.{nat_tests}
use Rattle.std.proofs.lemmas.Option.{slice_get_within, slice_get-get_or}
use Rattle.word_spec.specs.RowFiles.{from_to}
use Rattle.word_spec.specs.Words.{bit}
use Rattle.bilv_spec.proofs.Pigeons.{truth}

module _ {X : Type 0} where
  pub get_left : (xs ys : List X) (i : ℕ) → i < length xs → slice_get (xs ++ ys) i ≡ slice_get xs i
  get_left [] ys i l = absurd (omega arith)
  get_left (x ∷ xs) ys zero l = refl
  get_left (x ∷ xs) ys (suc i) l = get_left xs ys i (omega arith)

  pub get_right : (xs ys : List X) (i : ℕ) → slice_get (xs ++ ys) (length xs + i) ≡ slice_get ys i
  get_right [] ys i = ap (slice_get ys) (let e : 0 + i ≡ i = omega arith in e)
  get_right (x ∷ xs) ys i = ap (slice_get (x ∷ (xs ++ ys))) (let e : suc (length xs) + i ≡ suc (length xs + i) = omega arith in e) ∙ get_right xs ys i

  -- an element of two lists, by the list that has it
  pub get_split : (xs ys : List X) (i : ℕ) (x : X) → slice_get (xs ++ ys) i ≡ Some x →
      (slice_get xs i ≡ Some x) ⊎ ((j : ℕ) × (i ≡ length xs + j) × (slice_get ys j ≡ Some x))
  get_split [] ys i x e = inr (i, (let f : i ≡ 0 + i = omega arith in f), e)
  get_split (y ∷ xs) ys zero x e = inl e
  get_split (y ∷ xs) ys (suc i) x e = elim (get_split xs ys i x e) [
    | inl h ↦ inl h
    | inr h ↦ inr (h.0, (let f = h.1 in omega arith), h.2)
  ]

  pub length_append : (xs ys : List X) → length (xs ++ ys) ≡ length xs + length ys
  length_append [] ys = let e : length ys ≡ 0 + length ys = omega arith in e
  length_append (x ∷ xs) ys = let e = length_append xs ys in omega arith

  pub get_of : (xs : List X) (x : X) → Contains xs x → (i : ℕ) × (slice_get xs i ≡ Some x)
  get_of xs x c = (c.0, slice_get-get_or xs c.0 x c.1 ∙ ap Some c.2)

-- so many elements of a function from a number on
module _ {X : Type 0} (f : ℕ → X) where
  pub row_get : (n count i : ℕ) → i < count → slice_get (map f (from_to n count)) i ≡ Some (f (n + i))
  row_get n zero i l = absurd (omega arith)
  row_get n (suc count) zero l = ap (λ z. Some (f z)) (let e : n ≡ n + 0 = omega arith in e)
  row_get n (suc count) (suc i) l = row_get (n + 1) count i (omega arith) ∙ ap (λ z. Some (f z)) (let e : n + 1 + i ≡ n + suc i = omega arith in e)

  pub row_length : (n count : ℕ) → length (map f (from_to n count)) ≡ count
  row_length n zero = refl
  row_length n (suc count) = let e = row_length (n + 1) count in omega arith

  pub row_is : (count i : ℕ) (x : X) → slice_get (map f (from_to 0 count)) i ≡ Some x → (i < count) × (x ≡ f i)
  row_is count i x e =
      let w = slice_get_within (map f (from_to 0 count)) i x e in
      let n = row_length 0 count in
      let l : i < count = omega arith in
      (l, some (sym e ∙ row_get 0 count i l) ∙ ap f (let z : 0 + i ≡ i = omega arith in z))
    where
      some : {a b : X} → Some a ≡ Some b → a ≡ b
      some h = (cc)

steps : (m q b : ℕ) → m + (m * q + b) ≡ m * suc q + b
steps m q b = grind arith

more : (m q : ℕ) → m + m * q ≡ m * suc q
more m q = grind arith

-- blocks of so many elements, one for each number of a list
module _ {X : Type 0} (f : ℕ → ℕ → X) (m : ℕ) where
  abbrev pub blocks : List ℕ → List X
  blocks xs = flat_map (λ a. map (f a) (from_to 0 m)) xs

  pub block_length : (xs : List ℕ) → length (blocks xs) ≡ m * length xs
  block_length [] = let e : 0 ≡ m * 0 = omega arith in e
  block_length (a ∷ xs) =
      length_append (map (f a) (from_to 0 m)) (blocks xs) ∙ ap (λ z. z + length (blocks xs)) (row_length (f a) 0 m) ∙ ap
      (λ z. m + z) (block_length xs) ∙ more m (length xs)

  pub block_get : (xs : List ℕ) (q b : ℕ) → q < length xs → b < m → slice_get (blocks xs) (m * q + b) ≡ Some (f (slice_index xs q) b)
  block_get [] q b l h = absurd (omega arith)
  block_get (a ∷ xs) zero b l h =
      ap (slice_get (blocks (a ∷ xs))) (let e : m * 0 + b ≡ b = omega arith in e)
      ∙ get_left (map (f a) (from_to 0 m)) (blocks xs) b (let n = row_length (f a) 0 m in omega arith)
      ∙ row_get (f a) 0 m b h ∙ ap (λ z. Some (f a z)) (let e : 0 + b ≡ b = omega arith in e)
  block_get (a ∷ xs) (suc q) b l h =
      ap (slice_get (blocks (a ∷ xs))) (sym (steps m q b) ∙ ap (λ z. z + (m * q + b)) (sym (row_length (f a) 0 m)))
      ∙ get_right (map (f a) (from_to 0 m)) (blocks xs) (m * q + b) ∙ block_get xs q b (omega arith) h

  pub block_is : (xs : List ℕ) (i : ℕ) (x : X) → slice_get (blocks xs) i ≡ Some x →
      (q b : ℕ) × (q < length xs) × (b < m) × (i ≡ m * q + b) × (x ≡ f (slice_index xs q) b)
  block_is [] i x e = absurd (cc)
  block_is (a ∷ xs) i x e = elim (get_split (map (f a) (from_to 0 m)) (blocks xs) i x e) [
    | inl h ↦ (let r = row_is (f a) m i x h in (0, i, omega arith, r.0, (let z : i ≡ m * 0 + i = omega arith in z), r.1))
    | inr h ↦ (let r = block_is xs h.0 x h.2 in
        let j : i ≡ m + (m * r.0 + r.1) = h.1 ∙ ap (λ z. z + h.0) (row_length (f a) 0 m) ∙ ap (λ z. m + z) r.4 in
        (suc r.0, r.1, (let l = r.2 in omega arith), r.3, j ∙ steps m r.0 r.1, r.5))
  ]

-- which numbers pass a test, in their order
module _ (f : ℕ → Bool) where
  abbrev pub passed : ℕ → List ℕ
  passed n = filter f (from_to 0 n)

  -- how many of the first ones pass
  unfoldable pub passed_below : ℕ → ℕ
  passed_below zero = 0
  passed_below (suc n) = passed_below n + bit (f n)

  filter_append : (xs ys : List ℕ) → filter f (xs ++ ys) ≡ filter f xs ++ filter f ys
  filter_append [] ys = refl
  filter_append (x ∷ xs) ys = by (f x) (filter_append xs ys)
    where
      by : (b : Bool) → filter f (xs ++ ys) ≡ filter f xs ++ filter f ys →
          (if b then x ∷ filter f (xs ++ ys) else filter f (xs ++ ys)) ≡ (if b then x ∷ filter f xs else filter f xs) ++ filter f ys
      by true e = ap (λ z. x ∷ z) e
      by false e = e

  last_one : (a n : ℕ) → from_to a (suc n) ≡ from_to a n ++ (a + n) ∷ []
  last_one a zero = ap (λ z. z ∷ []) (let e : a ≡ a + 0 = omega arith in e)
  last_one a (suc n) = ap (λ z. a ∷ z) (last_one (a + 1) n ∙ ap (λ z. from_to (a + 1) n ++ z ∷ []) (let e : a + 1 + n ≡ a + suc n = omega arith in e))

  next_passed : (n : ℕ) → passed (suc n) ≡ passed n ++ (if f n then n ∷ [] else [])
  next_passed n = ap (filter f) (last_one 0 n ∙ ap (λ z. from_to 0 n ++ z ∷ []) (let e : 0 + n ≡ n = omega arith in e)) ∙ filter_append (from_to 0 n) (n ∷ [])

  pub passed_length : (n : ℕ) → length (passed n) ≡ passed_below n
  unfolding passed_below
  passed_length zero = refl
  passed_length (suc n) =
      ap (λ (z : List ℕ). length z) (next_passed n) ∙ length_append (passed n) (if f n then n ∷ [] else []) ∙ ap
      (λ z. z + length (if f n then n ∷ [] else [])) (passed_length n)
      ∙ ap (λ z. passed_below n + z) (by (f n))
    where
      by : (b : Bool) → length (if b then n ∷ [] else []) ≡ bit b
      by true = refl
      by false = refl

  -- one that passes stands behind those below it that pass
  pub passed_get : (n i : ℕ) → i < n → f i ≡ true → slice_get (passed n) (passed_below i) ≡ Some i
  passed_get zero i l e = absurd (omega arith)
  passed_get (suc n) i l e = elim (truth (nat_lt i n)) [
    | inl t ↦ (let h = passed_get n i (grind (arith, nat_tests)) e in
        ap (λ z. slice_get z (passed_below i)) (next_passed n)
        ∙ get_left (passed n) (if f n then n ∷ [] else []) (passed_below i) (slice_get_within (passed n) (passed_below i) i h) ∙ h)
    | inr t ↦ (let s : i ≡ n = grind (arith, nat_tests) in
        let len = passed_length n in
        ap (λ z. slice_get z (passed_below i)) (next_passed n)
        ∙ ap (slice_get (passed n ++ (if f n then n ∷ [] else []))) (ap passed_below s ∙ sym len ∙ (let z : length (passed n)
        ≡ length (passed n) + 0 = omega arith in z))
        ∙ get_right (passed n) (if f n then n ∷ [] else []) 0 ∙ ap (λ z. slice_get (if z then n ∷ [] else []) 0) (ap f (sym s) ∙ e) ∙ ap Some (sym s))
  ]

  pub passed_is : (n q i : ℕ) → slice_get (passed n) q ≡ Some i → (i < n) × (f i ≡ true) × (q ≡ passed_below i)
  passed_is zero q i e = absurd (cc)
  passed_is (suc n) q i e = elim (get_split (passed n) (if f n then n ∷ [] else []) q i (ap (λ z. slice_get z q) (sym (next_passed n)) ∙ e)) [
    | inl h ↦ (let r = passed_is n q i h in ((let l = r.0 in omega arith), r.1, r.2))
    | inr h ↦ by (f n) refl h.0 h.2 (h.1 ∙ ap (λ z. z + h.0) (passed_length n))
  ]
    where
      by : (b : Bool) → f n ≡ b → (j : ℕ) → slice_get (if b then n ∷ [] else []) j ≡ Some i → q ≡ passed_below n + j → (i < suc n) × (f i ≡ true) ×
          (q ≡ passed_below i)
      by false t j h g = absurd (cc)
      by true t zero h g = let s : n ≡ i = cc in (
        (omega arith),
        ap f (sym s) ∙ t,
        g ∙ (let z : passed_below n + 0
            ≡ passed_below n = omega arith in z) ∙ ap passed_below s,
      )
      by true t (suc j) h g = absurd (cc)
