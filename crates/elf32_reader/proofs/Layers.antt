-- How many segments of a list cover an address, and what that says of the list.
use Rattle.std.proofs.Common.{◌≡◌, ℕ, zero, suc, ◌+◌, ◌≤◌, ◌<◌, List, [], ◌∷◌, length, get_or, refl, ap, sym, ◌∙◌, arith, inl, inr, ◌⊎◌, Bool, true, false, cond, Some, None, map}
use Rattle.std.specs.Prelude.{slice_get, find}
use Rattle.std.specs.List.{count_by, filter}
use Rattle.std.proofs.lemmas.List.Sums.{sum_by-cons}

-- the count of a list by its first element
count_yes : {X : Type 0} (p : X → Bool) (x : X) (xs : List X) → p x ≡ true → count_by p (x ∷ xs) ≡ 1 + count_by p xs
count_yes p x xs e = sum_by-cons (λ y. cond (p y) 1 0) x xs ∙ ap (λ b. cond b 1 0 + count_by p xs) e

count_no : {X : Type 0} (p : X → Bool) (x : X) (xs : List X) → p x ≡ false → count_by p (x ∷ xs) ≡ 0 + count_by p xs
count_no p x xs e = sum_by-cons (λ y. cond (p y) 1 0) x xs ∙ ap (λ b. cond b 1 0 + count_by p xs) e

-- a test answers
answer : (b : Bool) → (b ≡ true) ⊎ (b ≡ false)
answer true = inl refl
answer false = inr refl

-- no element passes
pub count_none : {X : Type 0} (p : X → Bool) (xs : List X) → ((k : ℕ) (d : X) → k < length xs → p (get_or xs k d) ≡ false) → count_by p xs ≡ 0
count_none p [] h = refl
count_none {X = X} p (x ∷ xs) h =
    let here : count_by p (x ∷ xs) ≡ 0 + count_by p xs = count_no p x xs (h 0 x (omega arith)) in
    let rest : count_by p xs ≡ 0 = count_none p xs (λ k d w. h (suc k) d (omega arith)) in
    omega arith

-- an element that passes counts
pub count_one : {X : Type 0} (p : X → Bool) (xs : List X) (i : ℕ) (s : X) → slice_get xs i ≡ Some s → p s ≡ true → 1 ≤ count_by p xs
count_one p [] i s at h = absurd (cc)
count_one p (x ∷ xs) zero s at h = let same : x ≡ s = cc in let here = count_yes p x xs (ap p same ∙ h) in omega arith
count_one p (x ∷ xs) (suc i) s at h =
    let rest = count_one p xs i s at h in
    let first = sum_by-cons (λ y. cond (p y) 1 0) x xs in
    omega arith

-- so do two
pub count_two : {X : Type 0} (p : X → Bool) (xs : List X) (i j : ℕ) (s t : X) → slice_get xs i ≡ Some s → slice_get xs j ≡ Some t → i < j → p s ≡ true →
    p t ≡ true → 2 ≤ count_by p xs
count_two p [] i j s t at_i at_j less hs ht = absurd (cc)
count_two p (x ∷ xs) zero zero s t at_i at_j less hs ht = absurd (omega arith)
count_two p (x ∷ xs) zero (suc j) s t at_i at_j less hs ht =
    let same : x ≡ s = cc in
    let here = count_yes p x xs (ap p same ∙ hs) in
    let rest = count_one p xs j t at_j ht in
    omega arith
count_two p (x ∷ xs) (suc i) zero s t at_i at_j less hs ht = absurd (omega arith)
count_two p (x ∷ xs) (suc i) (suc j) s t at_i at_j less hs ht =
    let rest = count_two p xs i j s t at_i at_j (omega arith) hs ht in
    let first = sum_by-cons (λ y. cond (p y) 1 0) x xs in
    omega arith

-- where one counts, an element passes
pub one_passes : {X : Type 0} (p : X → Bool) (xs : List X) → 1 ≤ count_by p xs → (i : ℕ) × (s : X) × (slice_get xs i ≡ Some s) × (p s ≡ true)
one_passes p [] h = absurd (omega arith)
one_passes {X = X} p (x ∷ xs) h =
    elim (answer (p x)) as (λ _. (i : ℕ) × (s : X) × (slice_get (x ∷ xs) i ≡ Some s) × (p s ≡ true)) [
      | inl e ↦ (0, x, refl, e)
      | inr e ↦
          let here = count_no p x xs e in
          let rest = one_passes p xs (omega arith) in (suc rest.0, rest.1, rest.2, rest.3)
    ]

-- where two count, two pass
pub two_pass : {X : Type 0} (p : X → Bool) (xs : List X) → 2 ≤ count_by p xs
    → (i j : ℕ) × (s t : X) × (slice_get xs i ≡ Some s) × (slice_get xs j ≡ Some t) × (i < j) × (p s ≡ true) × (p t ≡ true)
two_pass p [] h = absurd (omega arith)
two_pass {X = X} p (x ∷ xs) h =
    elim (answer (p x)) as (λ _. (i j : ℕ) × (s t : X) × (slice_get (x ∷ xs) i ≡ Some s) × (slice_get (x ∷ xs) j ≡ Some t) × (i < j) × (p s ≡ true) ×
    (p t ≡ true)) [
      | inl e ↦
          let here = count_yes p x xs e in
          let rest = one_passes p xs (omega arith) in
          (0, suc rest.0, x, rest.1, refl, rest.2, omega arith, e, rest.3)
      | inr e ↦
          let here = count_no p x xs e in
          let rest = two_pass p xs (omega arith) in
          (suc rest.0, suc rest.1, rest.2, rest.3, rest.4, rest.5, (let less : rest.0 < rest.1 = rest.6 in omega arith), rest.7, rest.8)
    ]

-- where at most one element passes, it is the one that is found
pub found_only : {X : Type 0} (p : X → Bool) (xs : List X) (i : ℕ) (s : X) → count_by p xs ≤ 1 → slice_get xs i ≡ Some s → p s ≡ true → find p xs ≡ Some s
found_only p [] i s few at h = absurd (cc)
found_only p (x ∷ xs) zero s few at h = let same : x ≡ s = cc in rw (same, h)
found_only {X = X} p (x ∷ xs) (suc i) s few at h =
    let rest = count_one p xs i s at h in
    elim (answer (p x)) as (λ _. find p (x ∷ xs) ≡ Some s) [
      | inl e ↦ let here = count_yes p x xs e in absurd (omega arith)
      | inr e ↦ let here = count_no p x xs e in rw e (found_only p xs i s (omega arith) at h)
    ]

-- where no element passes, none is found
pub found_none : {X : Type 0} (p : X → Bool) (xs : List X) → count_by p xs ≡ 0 → find p xs ≡ None
found_none p [] h = refl
found_none p (x ∷ xs) h =
    elim (answer (p x)) as (λ _. find p (x ∷ xs) ≡ None) [
      | inl e ↦ let here = count_yes p x xs e in absurd (omega arith)
      | inr e ↦ let here = count_no p x xs e in rw e (found_none p xs (omega arith))
    ]

-- a filter that drops only what fails changes no count
pub count-filter : {X : Type 0} (p q : X → Bool) → ((x : X) → p x ≡ true → q x ≡ true) → (xs : List X) → count_by p (filter q xs) ≡ count_by p xs
count-filter p q h [] = refl
count-filter {X = X} p q h (x ∷ xs) =
    let rest = count-filter p q h xs in
    elim (answer (q x)) as (λ _. count_by p (filter q (x ∷ xs)) ≡ count_by p (x ∷ xs)) [
      | inl e ↦
          let kept : filter q (x ∷ xs) ≡ x ∷ filter q xs = ap (λ b. cond b (x ∷ filter q xs) (filter q xs)) e in
          ap (count_by p) kept ∙ sum_by-cons (λ y. cond (p y) 1 0) x (filter q xs)
          ∙ ap (λ n. cond (p x) 1 0 + n) rest ∙ sym (sum_by-cons (λ y. cond (p y) 1 0) x xs)
      | inr e ↦
          let gone : filter q (x ∷ xs) ≡ filter q xs = ap (λ b. cond b (x ∷ filter q xs) (filter q xs)) e in
          let fails : p x ≡ false = elim (answer (p x)) as (λ _. p x ≡ false) [ inl passes ↦ cc (h x passes, e) | inr f ↦ f ] in
          ap (count_by p) gone ∙ rest ∙ (let last = count_no p x xs fails in omega arith)
    ]

-- a count over a mapped list
pub count-map : {X Y : Type 0} (f : X → Y) (p : Y → Bool) (xs : List X) → count_by p (map f xs) ≡ count_by (λ x. p (f x)) xs
count-map f p [] = refl
count-map f p (x ∷ xs) =
    sum_by-cons (λ y. cond (p y) 1 0) (f x) (map f xs) ∙ ap (λ n. cond (p (f x)) 1 0 + n) (count-map f p xs)
    ∙ sym (sum_by-cons (λ y. cond (p (f y)) 1 0) x xs)
