-- What a descent by decisions ends in.
use Rattle.std.specs.Prelude.{◌≡◌, ◌-◌, ℕ, Bool, false, List, [], ◌∷◌, ◌++◌, Option, length}
use Rattle.clause_spec.specs.Clauses.{Literal, Clause, IsOnVariables}
use Rattle.clause_spec.specs.UnitPropagation.{Conflicts, Includes, negations}
use Rattle.clause_spec.specs.Refutation.{is_tautology}
use Rattle.sat_core.specs.declared.decide.Descent.{Descent}
use Rattle.sat_core.specs.declared.decide.Descent.TheVariants.{Model, Blocked}
use Rattle.sat_core.specs.ClosedSets.{IsQuiet, IsGiven}
use Rattle.sat_core.specs.Tables.{true_in, IsFilled}

-- before its last literal was made false, propagation from the others had nothing more to do, and had not made it true
abbrev pub IsDecided : List Clause → Clause → Type 0
IsDecided cs full = (e : Clause) (l : Literal) → full ≡ e ++ l ∷ [] →
    (holds : Literal → Bool) × IsQuiet cs holds × Includes (negations e) holds × (holds l ≡ false)

-- the clause's literals were decided false, one after another
pub record IsTaken (cs : List Clause) (variables : ℕ) (full : Clause) (holds : Literal → Bool) : Type 0 where
  pub over : IsOnVariables variables full
  pub plain : is_tautology full ≡ false
  pub decided : IsDecided cs full
  pub included : Includes (negations full) holds
  pub given : IsGiven cs (negations full) holds

abbrev pub IsDescent : List Clause → List (Option Bool) → Descent → Type 0
IsDescent cs table Model = IsQuiet cs (true_in table) × IsFilled table
IsDescent cs table (Blocked full) = IsTaken cs (length table - 1) full.items (true_in table) × Conflicts cs (negations full.items)
