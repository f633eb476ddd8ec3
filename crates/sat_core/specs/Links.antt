-- Lists of watches. Each clause with two different literals watches two of them: the clause at the place j of the owners has the watches 2 * j and 2 * j + 1.
-- The watches of a literal are a list, which is linked by one number for each watch.
use Rattle.std.specs.Prelude.{◌≡◌, ℕ, ◌+◌, ◌-◌, ◌*◌, ◌/◌, ◌%◌, ◌<◌, ◌≤◌, Bool, true, false, List, [], ◌∷◌, nat_eq, slice_index_or, slice_get, length, Some, if◌then◌else◌}
use Rattle.std.specs.List.{list_any, IsDistinct}
use Rattle.clause_spec.specs.Clauses.{Literal, Clause, same, opposite, has}

-- the place of a literal's list
abbrev pub place : Literal → ℕ
place l = if l.positive then 2 * l.variable + 1 else 2 * l.variable

-- the other watch of a clause
abbrev pub mate : ℕ → ℕ
mate n = n + 1 - 2 * (n % 2)

-- behind the last watch of a list
abbrev pub no_watch : ℕ
no_watch = 18446744073709551615

abbrev pub some_literal : Literal
some_literal = record { variable = 1; positive = true }

-- the literal that is watched
abbrev pub watched_at : List Literal → ℕ → Literal
watched_at watched n = slice_index_or watched n some_literal

-- the number is one of the list
abbrev pub among : List ℕ → ℕ → Bool
among ns n = list_any (nat_eq n) ns

-- these are the watches that the links lead to from one of them
abbrev pub IsChain : List ℕ → ℕ → List ℕ → Type 0
IsChain links n [] = n ≡ no_watch
IsChain links n (x ∷ xs) = (n ≡ x) × (x < length links) × IsChain links (slice_index_or links x 0) xs

-- every watch but the free ones is in the list of its literal
pub record IsLinked (heads links : List ℕ) (watched : List Literal) (free : List ℕ) : Type 0 where
  pub lists : ℕ → List ℕ
  pub chained : (p : ℕ) → p < length heads → IsChain links (slice_index_or heads p 0) (lists p)
  pub own : (p n : ℕ) → among (lists p) n ≡ true → (n < length links) × (place (watched_at watched n) ≡ p) × (among free n ≡ false)
  pub distinct : (p : ℕ) → IsDistinct nat_eq (lists p)
  pub all : (n : ℕ) → n < length links → among free n ≡ false → among (lists (place (watched_at watched n))) n ≡ true
  pub few : length links ≤ no_watch
  pub sizes : length watched ≡ length links

-- the watched literals are two different ones of their clause
pub record IsPlaced (cs : List Clause) (owners : List ℕ) (watched : List Literal) : Type 0 where
  pub pairs : length watched ≡ 2 * length owners
  pub within : (j : ℕ) → j < length owners → slice_index_or owners j 0 < length cs
  pub inside : (n : ℕ) (c : Clause) → n < length watched → slice_get cs (slice_index_or owners (n / 2) 0) ≡ Some c → has c (watched_at watched n) ≡ true
  pub apart : (n : ℕ) → n < length watched → same (watched_at watched n) (watched_at watched (mate n)) ≡ false

-- where a watched literal is false by the first test, the other one is true by the second; of the free watches nothing is said
abbrev pub AreKept : List Literal → List ℕ → (Literal → Bool) → (Literal → Bool) → Type 0
AreKept watched free done holds =
    (n : ℕ) → n < length watched → among free n ≡ false → done (opposite (watched_at watched n)) ≡ true → holds (watched_at watched (mate n)) ≡ true
