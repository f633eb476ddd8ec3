-- Steps of propagation, and how it ends.
use Rattle.std.specs.Prelude.{◌≡◌, ℕ, Bool, List, [], ◌∷◌, Some, slice_get}
use Rattle.clause_spec.specs.Clauses.{Literal, Clause}
use Rattle.clause_spec.specs.Refutation.{look_of, UnitOf, Conflict, added}
use Rattle.sat_core.specs.declared.trail.Step.{Step}

-- the clause at the place is a unit, and this literal is what is left of it
abbrev pub IsStep : List Clause → (Literal → Bool) → ℕ → Literal → Type 0
IsStep cs holds k l = (c : Clause) × (slice_get cs k ≡ Some c) × (look_of holds c ≡ UnitOf l)

-- the clause at the place is a conflict
abbrev pub IsConflictAt : List Clause → (Literal → Bool) → ℕ → Type 0
IsConflictAt cs holds k = (c : Clause) × (slice_get cs k ≡ Some c) × (look_of holds c ≡ Conflict)

-- the literals that are true behind steps, the last of which stands first
abbrev pub told : (Literal → Bool) → List Step → Literal → Bool
told given [] = given
told given (s ∷ before) = added s.lit (told given before)

-- each is a step behind those before it; the last stands first
abbrev pub AreSteps : List Clause → (Literal → Bool) → List Step → Type 0
AreSteps cs given [] = Unit {0}
AreSteps cs given (s ∷ before) = IsStep cs (told given before) s.clause s.lit × AreSteps cs given before

-- steps that lead to a conflict, the last of which stands first
abbrev pub IsWay : List Clause → (Literal → Bool) → List Step → ℕ → Type 0
IsWay cs given steps k = AreSteps cs given steps × IsConflictAt cs (told given steps) k
