-- Clauses over variables, as a test.
use Rattle.std.specs.Prelude.{ℕ, Bool, ◌&&◌, nat_le}
use Rattle.std.specs.List.{list_all}
use Rattle.clause_spec.specs.Clauses.{Literal, Clause}

-- each literal is over a variable from 1 to n
abbrev pub is_on_variables : ℕ → Clause → Bool
is_on_variables n c = list_all (λ (l : Literal). nat_le 1 l.variable && nat_le l.variable n) c
