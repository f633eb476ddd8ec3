-- Clauses as they are pushed, by tests.
use Rattle.std.specs.Prelude.{◌≡◌, ℕ, Bool, true, List}
use Rattle.std.specs.List.{list_all}
use Rattle.clause_spec.specs.Clauses.{Clause, clause_value}
use Rattle.cnf_form.specs.Ranges.{is_on_variables}

-- every clause is true under the valuation
abbrev pub satisfied : (ℕ → Bool) → List Clause → Bool
satisfied v cs = list_all (clause_value v) cs

-- every clause is over variables from 1 to n
pub record AreOver (n : ℕ) (cs : List Clause) : Type 0 where
  pub each : list_all (is_on_variables n) cs ≡ true
