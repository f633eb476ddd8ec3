-- The variables of clauses and of logs.
use Rattle.std.specs.Prelude.{ℕ, List, [], ◌∷◌, ◌++◌, map}
use Rattle.clause_spec.specs.Clauses.{Literal, Clause}
use Rattle.clause_spec.specs.Refutation.{LogLine, Add, Delete, Bad}

-- of a clause, one for each literal
abbrev pub variables_of : Clause → List ℕ
variables_of c = map (λ (l : Literal). l.variable) c

-- of clauses
abbrev pub variables_in : List Clause → List ℕ
variables_in [] = []
variables_in (c ∷ cs) = variables_of c ++ variables_in cs

-- of the clause that a line adds
abbrev pub variables_by : LogLine → List ℕ
variables_by (Add id c hints) = variables_of c
variables_by (Delete id ids) = []
variables_by Bad = []

-- of the clauses that a log adds
abbrev pub variables_added : List LogLine → List ℕ
variables_added [] = []
variables_added (l ∷ ls) = variables_by l ++ variables_added ls
