-- The clauses that a checker keeps, by their ids.
use Rattle.std.specs.Prelude.{ℕ, ◌<◌, ◌==◌, if◌then◌else◌, List, [], ◌∷◌, Option, Some, None, map, length, slice_index_or}
use Rattle.clause_spec.specs.Clauses.{Clause}
use Rattle.refutation_checker.specs.declared.entries.Entry.{Entry}

-- the clause of an entry that is present
abbrev pub present_in : Entry → Option Clause
present_in e = if e.is_present then Some e.clause.now else None

-- the present clause of an id
abbrev pub look_up : List Entry → ℕ → Option Clause
look_up [] i = None
look_up (e ∷ es) i = if i == e.id then present_in e else look_up es i

-- the ids
abbrev pub ids_of : List Entry → List ℕ
ids_of es = map (λ e. e.id) es

-- each number is above those before it
abbrev pub IsRising : List ℕ → Type 0
IsRising ids = (j k : ℕ) → j < k → k < length ids → slice_index_or ids j 0 < slice_index_or ids k 0
