-- Tables of the variables' values.
use Rattle.std.specs.Prelude.{◌≢◌, ℕ, ◌+◌, ◌≤◌, ◌<◌, Bool, false, List, [], ◌∷◌, Option, Some, None, slice_index_or, length}
use Rattle.clause_spec.specs.Clauses.{Literal, same_sign}

-- the value is this one
abbrev pub value_is : Option Bool → Bool → Bool
value_is None p = false
value_is (Some b) p = same_sign b p

-- the literals that a table makes true
abbrev pub true_in : List (Option Bool) → Literal → Bool
true_in table l = value_is (slice_index_or table l.variable None) l.positive

-- how many places of a table are open
abbrev pub open_count : List (Option Bool) → ℕ
open_count [] = 0
open_count (None ∷ os) = 1 + open_count os
open_count (Some b ∷ os) = open_count os

-- each variable has a value
abbrev pub IsFilled : List (Option Bool) → Type 0
IsFilled table = (v : ℕ) → 1 ≤ v → v < length table → slice_index_or table v None ≢ None

-- the value, where one that is open is false
abbrev pub is_set : Option Bool → Bool
is_set None = false
is_set (Some b) = b
