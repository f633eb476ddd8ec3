-- The numbers that were read, by the clauses that they are.
use Rattle.std.specs.Prelude.{Bool, false, not, ◌&&◌, nat_le, List, [], ◌∷◌, ◌++◌, map}
use Rattle.std.specs.List.{list_all}
use Rattle.clause_spec.specs.Clauses.{Literal, Clause}
use Rattle.clause_spec.specs.CertificateGrammar.{Integer}

-- the number of a literal
abbrev pub number_of : Literal → Integer
number_of l = record { negative = not l.positive; size = l.variable }

-- the number that ends a clause
abbrev pub end_number : Integer
end_number = record { negative = false; size = 0 }

-- the numbers of ended clauses, and those of one that isn't ended
abbrev pub numbers_from : List Clause → Clause → List Integer
numbers_from [] open_clause = map number_of open_clause
numbers_from (c ∷ cs) open_clause = map number_of c ++ end_number ∷ numbers_from cs open_clause

-- no literal of a clause is 0
abbrev pub is_nonzero : Clause → Bool
is_nonzero c = list_all (λ (l : Literal). nat_le 1 l.variable) c

-- no literal is 0
abbrev pub are_nonzero : List Clause → Clause → Bool
are_nonzero cs open_clause = list_all is_nonzero cs && is_nonzero open_clause
