-- Numbers and contracts that are gone through one by one.
use Rattle.std.proofs.Common.{◌≡◌, refl, ap, sym, ◌∙◌, arith, ℕ, zero, suc, ◌+◌, ◌<◌, ◌≤◌, Bool, true, false, List, [], ◌∷◌, ◌++◌, length, get_or, drop, map}
use Rattle.std.specs.Prelude.{◌==◌, Contains, filter, if◌then◌else◌}
use Rattle.std.proofs.lemmas.List.{drop_more}
use Rattle.program_points.proofs.Lists.{nothing_more, regroup}
use Rattle.unroller.specs.Keys.{address_of, is_of, place_in}
use Rattle.unroller.proofs.Ordered.{same_test}
use Rattle.unroller.proofs.Places.{drop_past}

map_if : (b : Bool) (x : ℕ) (l : List ℕ) → map address_of (if b then x ∷ l else l) ≡ (if b then address_of x ∷ map address_of l else map address_of l)
map_if true x l = refl
map_if false x l = refl

module _ (contract : Bool) (xs : List ℕ) (i : ℕ) (w : i < length xs) (found all : List ℕ)
    (so : found ++ map address_of (filter (is_of contract) (drop i xs)) ≡ all) where
  abbrev rest : List ℕ
  rest = map address_of (filter (is_of contract) (drop (i + 1) xs))

  next : map address_of (filter (is_of contract) (drop i xs)) ≡ (if is_of contract (get_or xs i 0) then address_of (get_or xs i 0) ∷ rest else rest)
  next =
      ap (λ (l : List ℕ). map address_of (filter (is_of contract) l)) (drop_more xs i 0 w)
      ∙ map_if (is_of contract (get_or xs i 0)) (get_or xs i 0) (filter (is_of contract) (drop (i + 1) xs))

  pub address_found : is_of contract (get_or xs i 0) ≡ true → (more : List ℕ) → more ≡ found ++ address_of (get_or xs i 0) ∷ [] → more ++ rest ≡ all
  address_found h more e =
      ap (λ (l : List ℕ). l ++ rest) e ∙ regroup found (address_of (get_or xs i 0) ∷ []) rest
      ∙ sym (ap (λ (l : List ℕ). found ++ l) (next ∙ ap (λ (b : Bool). if b then address_of (get_or xs i 0) ∷ rest else rest) h)) ∙ so

  pub address_passed : is_of contract (get_or xs i 0) ≡ false → found ++ rest ≡ all
  address_passed h = sym (ap (λ (l : List ℕ). found ++ l) (next ∙ ap (λ (b : Bool). if b then address_of (get_or xs i 0) ∷ rest else rest) h)) ∙ so

pub addresses_all : (contract : Bool) (xs : List ℕ) (i : ℕ) (found : List ℕ) → length xs ≤ i →
    found ++ map address_of (filter (is_of contract) (drop i xs)) ≡ map address_of (filter (is_of contract) xs) →
    found ≡ map address_of (filter (is_of contract) xs)
addresses_all contract xs i found le so =
    nothing_more found ∙ sym (ap (λ (l : List ℕ). found ++ map address_of (filter (is_of contract) l)) (drop_past xs i le)) ∙ so

within_by : (y x : ℕ) (ys : List ℕ) (b : Bool) → (y == x) ≡ b → Contains (y ∷ ys) x → (Contains ys x → place_in ys x < length ys) →
    (if b then 0 else suc (place_in ys x)) < length (y ∷ ys)
within_by y x ys true t h g = omega arith
within_by y x ys false t (zero, w, e) g = absurd (let s : (y == x) ≡ true = same_test y x e in cc)
within_by y x ys false t (suc i, w, e) g = let l = g (i, omega arith, e) in omega arith

-- an address that is there has its place among them
pub place_within : (xs : List ℕ) (x : ℕ) → Contains xs x → place_in xs x < length xs
place_within [] x (i, w, e) = absurd (omega arith)
place_within (y ∷ ys) x h = within_by y x ys (y == x) refl h (place_within ys x)
