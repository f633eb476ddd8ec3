-- Numbers in order, each once.
use Rattle.std.proofs.Common.{◌≡◌, inl, inr, refl, ap, sym, ◌∙◌, arith, ℕ, zero, suc, Bool, true, false, ◌+◌, ◌<◌, ◌≤◌, List, [], ◌∷◌, ◌++◌, length, get_or, take}
use Rattle.std.specs.Prelude.{◌==◌, if◌then◌else◌, Contains, map, Err}
use Rattle.std.proofs.lemmas.Bool.Decides.{nat_tests}
use Rattle.std.specs.Ordering.{nat_cmp}
use Rattle.std.specs.List.Sorted.{IsStrictlyIncreasing, IsBinarySearchResult}
use Rattle.std.proofs.lemmas.List.Sorted.{searched}
use Rattle.std.proofs.lemmas.Bool.{cases_lt}
use Rattle.std.proofs.lemmas.List.{get_or_default, take_more}
use Rattle.known_bytes.proofs.Ordered.{rises}
use Rattle.unroller.specs.Keys.{place_in}

-- a search that fails
pub absent : (xs : List ℕ) (x i : ℕ) → IsBinarySearchResult (λ y. nat_cmp y x) xs (Err i) → IsStrictlyIncreasing xs → ¬ Contains xs x
absent xs x i searching up (k, w, e) =
    let q = searched xs x (Err i) searching (λ a b le l. not_falling a b le l) in
    let here : get_or xs k 0 ≡ x = get_or_default xs k 0 x w ∙ e in
    elim (cases_lt k i) as (λ _. ⊥) [
      | inl low ↦ (let b = q.1 k low in absurd (omega arith))
      | inr high ↦ (let b = q.2 k high w in absurd (omega arith))
    ]
  where
    not_falling : (a b : ℕ) → a ≤ b → b < length xs → get_or xs a 0 ≤ get_or xs b 0
    not_falling a b le l = elim (cases_lt a b) as (λ _. get_or xs a 0 ≤ get_or xs b 0) [
      | inl less ↦ (let z = rises xs up a b less l in omega arith)
      | inr more ↦ (let z : a ≡ b = omega arith in let s : get_or xs a 0 ≡ get_or xs b 0 = ap (λ (n : ℕ). get_or xs n 0) z in omega arith)
    ]

pub map_append : {X Y : Type 0} (f : X → Y) (us vs : List X) → map f (us ++ vs) ≡ map f us ++ map f vs
map_append f [] vs = refl
map_append f (u ∷ us) vs = ap (λ l. f u ∷ l) (map_append f us vs)

-- one more element of a list that is mapped
pub map_more : {X Y : Type 0} (f : X → Y) (xs : List X) (i : ℕ) (d : X) (ys zs : List Y) → i < length xs → ys ≡ map f (take i xs) →
    zs ≡ ys ++ f (get_or xs i d) ∷ [] → zs ≡ map f (take (i + 1) xs)
map_more f xs i d ys zs w is more =
    more ∙ ap (λ l. l ++ f (get_or xs i d) ∷ []) is ∙ sym (map_append f (take i xs) (get_or xs i d ∷ [])) ∙ sym (ap (map f) (take_more xs i d w))

place_by_head : (y x : ℕ) (ys : List ℕ) (b : Bool) → b ≡ true → 0 ≡ (if b then 0 else suc (place_in ys x))
place_by_head y x ys true h = refl
place_by_head y x ys false h = absurd (cc)

place_by_tail : (i x : ℕ) (ys : List ℕ) (b : Bool) → b ≡ false → i ≡ place_in ys x → suc i ≡ (if b then 0 else suc (place_in ys x))
place_by_tail i x ys true h e = absurd (cc)
place_by_tail i x ys false h e = ap suc e

pub same_test : (y x : ℕ) → y ≡ x → (y == x) ≡ true
same_test y x e = grind (arith, nat_tests)

other_test : (y x : ℕ) → y < x → (y == x) ≡ false
other_test y x l = grind (arith, nat_tests)

first_place : (xs : List ℕ) (i x : ℕ) → i < length xs → get_or xs i 0 ≡ x → ((j : ℕ) → j < i → get_or xs j 0 < x) → i ≡ place_in xs x
first_place [] i x w e below = absurd (omega arith)
first_place (y ∷ ys) zero x w e below = place_by_head y x ys (y == x) (same_test y x e)
first_place (y ∷ ys) (suc i) x w e below =
    place_by_tail i x ys (y == x) (other_test y x (below 0 (omega arith))) (first_place ys i x (omega arith) e (λ j l. below (suc j) (omega arith)))

-- the place of a number among rising ones is the only one
pub place_is : (xs : List ℕ) (i x : ℕ) → IsStrictlyIncreasing xs → i < length xs → get_or xs i 0 ≡ x → i ≡ place_in xs x
place_is xs i x up w e = first_place xs i x w e (λ j low. let z = rises xs up j i low w in omega arith)
