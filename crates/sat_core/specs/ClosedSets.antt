-- Sets of literals in which propagation has nothing to do, and those that it leads to.
use Rattle.std.specs.Prelude.{◌≡◌, Bool, List, Contains}
use Rattle.clause_spec.specs.Clauses.{Literal, Clause}
use Rattle.clause_spec.specs.UnitPropagation.{IsClosed, Includes}
use Rattle.clause_spec.specs.Refutation.{look_of, Other}

-- no clause is a unit or a conflict
abbrev pub IsQuiet : List Clause → (Literal → Bool) → Type 0
IsQuiet cs holds = (c : Clause) → Contains cs c → look_of holds c ≡ Other

-- every closed set that includes the literals given includes these
abbrev pub IsGiven : List Clause → (Literal → Bool) → (Literal → Bool) → Type 0
IsGiven cs given holds = (s : Literal → Bool) → Includes given s → IsClosed cs s → Includes holds s
