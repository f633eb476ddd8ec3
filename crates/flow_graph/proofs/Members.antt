-- Members of lists, as tests of them say.
use Rattle.std.proofs.Common.{◌≡◌, ◌⊎◌, inl, inr, ℕ, zero, suc, ◌<◌, refl, ap, sym, ◌∙◌, arith, List, [], ◌∷◌, length, get_or, map, Bool, true, false, eq-eqb}
use Rattle.std.specs.Prelude.{nat_eq, ◌||◌, filter, if◌then◌else◌}
use Rattle.std.specs.List.{list_any}
use Rattle.std.proofs.lemmas.Bool.{eqb-true}

pub truth : (b : Bool) → (b ≡ true) ⊎ (b ≡ false)
truth true = inl refl
truth false = inr refl

-- two tests that pass together are the same
pub same_truth : (a b : Bool) → (a ≡ true → b ≡ true) → (b ≡ true → a ≡ true) → a ≡ b
same_truth true b f g = sym (f refl)
same_truth false true f g = g refl
same_truth false false f g = refl

pub or_cases : (a b : Bool) → (a || b) ≡ true → (a ≡ true) ⊎ (b ≡ true)
or_cases true b h = inl refl
or_cases false b h = inr h

pub or_left : (a b : Bool) → a ≡ true → (a || b) ≡ true
or_left a b h = ap (λ c. c || b) h

pub or_right : (a b : Bool) → b ≡ true → (a || b) ≡ true
or_right true b h = refl
or_right false b h = h

pub or_swap : (a b c : Bool) → (a || (b || c)) ≡ (b || (a || c))
or_swap true true c = refl
or_swap true false c = refl
or_swap false b c = refl

pub or_twice : (a b : Bool) → (a || (a || b)) ≡ (a || b)
or_twice true b = refl
or_twice false b = refl

pub any_map : {X Y : Type 0} (test : Y → Bool) (f : X → Y) (xs : List X) → list_any test (map f xs) ≡ list_any (λ x. test (f x)) xs
any_map test f [] = refl
any_map test f (x ∷ xs) = ap (λ b. test (f x) || b) (any_map test f xs)

pub any_agree : {X : Type 0} (p q : X → Bool) → ((x : X) → p x ≡ q x) → (xs : List X) → list_any p xs ≡ list_any q xs
any_agree p q e [] = refl
any_agree p q e (x ∷ xs) = ap (λ b. b || list_any p xs) (e x) ∙ ap (λ b. q x || b) (any_agree p q e xs)

pub maps : {X Y Z : Type 0} (g : Y → Z) (f : X → Y) (xs : List X) → map g (map f xs) ≡ map (λ x. g (f x)) xs
maps g f [] = refl
maps g f (x ∷ xs) = ap (λ l. g (f x) ∷ l) (maps g f xs)

-- a test of images keeps the images of what the test of the elements keeps
pub map_filter : {X Y : Type 0} (f : X → Y) (q : Y → Bool) (xs : List X) → map f (filter (λ x. q (f x)) xs) ≡ filter q (map f xs)
map_filter f q [] = refl
map_filter f q (x ∷ xs) =
    elim (q (f x)) as (λ b. map f (if b then x ∷ filter (λ y. q (f y)) xs else filter (λ y. q (f y)) xs)
    ≡ (if b then f x ∷ filter q (map f xs) else filter q (map f xs)))
    [ true ↦ ap (λ l. f x ∷ l) (map_filter f q xs) | false ↦ map_filter f q xs ]

-- tests that pass the same elements do so behind a filter
pub any_filter : {X : Type 0} (test keep : X → Bool) (xs : List X) → list_any test (filter keep xs) ≡ list_any (λ x. if keep x then test x else false) xs
any_filter test keep [] = refl
any_filter test keep (x ∷ xs) =
    elim (keep x) as (λ b. list_any test (if b then x ∷ filter keep xs else filter keep xs) ≡ ((if b then test x else false) ||
    list_any (λ y. if keep y then test y else false) xs))
    [ true ↦ ap (λ b. test x || b) (any_filter test keep xs) | false ↦ any_filter test keep xs ]

pub head_in : (y : ℕ) (ys : List ℕ) → list_any (nat_eq y) (y ∷ ys) ≡ true
head_in y ys = ap (λ b. b || list_any (nat_eq y) ys) (eq-eqb y y refl)

pub tail_in : (z y : ℕ) (ys : List ℕ) → list_any (nat_eq z) ys ≡ true → list_any (nat_eq z) (y ∷ ys) ≡ true
tail_in z y ys h = or_right (nat_eq z y) (list_any (nat_eq z) ys) h

pub in_cases : (z x : ℕ) (xs : List ℕ) → list_any (nat_eq z) (x ∷ xs) ≡ true → (z ≡ x) ⊎ (list_any (nat_eq z) xs ≡ true)
in_cases z x xs h = elim (or_cases (nat_eq z x) (list_any (nat_eq z) xs) h) [ inl e ↦ inl (eqb-true z x e) | inr t ↦ inr t ]

-- where a member stands
pub place_in : (z : ℕ) (xs : List ℕ) → list_any (nat_eq z) xs ≡ true → (k : ℕ) × (k < length xs) × (get_or xs k z ≡ z)
place_in z [] h = absurd (cc)
place_in z (x ∷ xs) h = elim (in_cases z x xs h) [
  | inl e ↦ (zero, omega arith, sym e)
  | inr t ↦ (let q = place_in z xs t in (suc q.0, (let w = q.1 in omega arith), q.2))
]

pub at_in : (z : ℕ) (xs : List ℕ) (k : ℕ) (d : ℕ) → k < length xs → get_or xs k d ≡ z → list_any (nat_eq z) xs ≡ true
at_in z [] k d w e = absurd (omega arith)
at_in z (x ∷ xs) zero d w e = or_left (nat_eq z x) (list_any (nat_eq z) xs) (eq-eqb z x (sym e))
at_in z (x ∷ xs) (suc k) d w e = tail_in z x xs (at_in z xs k d (omega arith) e)
