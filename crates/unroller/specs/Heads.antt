-- The addresses of invariants.
use Rattle.std.specs.Prelude.{ℕ, Bool, nat_eq, List, [], ◌∷◌, if◌then◌else◌}
use Rattle.std.specs.List.{list_any}
use Rattle.bilv_spec.specs.Notes.{Assert}

-- the line is an invariant
abbrev pub is_line : (invariants : List ℕ) → Assert → Bool
is_line invariants a = list_any (nat_eq a.line) invariants

-- the addresses of the lines that are invariants
abbrev pub head_places : (invariants : List ℕ) → List Assert → List ℕ
head_places invariants [] = []
head_places invariants (a ∷ rest) = if is_line invariants a then a.at ∷ head_places invariants rest else head_places invariants rest
