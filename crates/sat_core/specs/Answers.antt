-- What the search answers.
use Rattle.std.specs.Prelude.{◌≡◌, ℕ, ◌⊎◌, false, List, [], ◌∷◌, ◌++◌, length}
use Rattle.clause_spec.specs.Clauses.{Clause, Cnf, IsOnVariables, Satisfies, valuation}
use Rattle.clause_spec.specs.Refutation.{LogLine, Add, is_tautology, IsRefutation}
use Rattle.clause_spec.specs.Empowering.{IsEmpowering, AreLearned, IsSpent}
use Rattle.cnf_form.specs.declared.form.Hint.{Hint}
use Rattle.cnf_form.specs.Views.{lines_of}
use Rattle.sat_core.specs.declared.search.Turn.{Turn}
use Rattle.sat_core.specs.declared.search.Turn.TheVariants.{Model, Clause as Learns}
use Rattle.sat_core.specs.declared.answer.Answer.{Answer}
use Rattle.sat_core.specs.declared.answer.Answer.TheVariants.{Sat, Unsat, Spent}
use Rattle.sat_core.specs.Kept.{AreHintsOf}

-- a clause that may be learned; with no literal, it ends a refutation
pub record IsLearned (cs : List Clause) (variables : ℕ) (c : Clause) (hints : List Hint) : Type 0 where
  pub hinted : AreHintsOf cs c hints
  pub over : IsOnVariables variables c
  pub plain : is_tautology c ≡ false
  pub useful : (c ≡ []) ⊎ IsEmpowering cs c

abbrev pub IsTurn : ℕ → List Clause → Turn → Type 0
IsTurn variables cs (Model vs) = (length vs.items ≡ variables) × Satisfies (valuation vs.items) cs
IsTurn variables cs (Learns learned) = IsLearned cs variables learned.lits.items learned.hints.items

-- one more clause could be learned after the lines
abbrev pub HaveNext : List Clause → List LogLine → Type 0
HaveNext first lines = (c : Clause) × AreLearned first (lines ++ Add 0 c [] ∷ [])

-- A value for each variable, so that every clause is true; or a refutation; or a log that spends the conflicts, after which one more clause could be learned.
abbrev pub IsAnswer : Cnf → (conflicts : ℕ) → Answer → Type 0
IsAnswer cnf conflicts (Sat vs) = (length vs.items ≡ cnf.variables) × Satisfies (valuation vs.items) cnf.clauses
IsAnswer cnf conflicts (Unsat log) = IsRefutation cnf.variables cnf.clauses (lines_of log)
IsAnswer cnf conflicts (Spent log) = IsSpent cnf.clauses conflicts (lines_of log) × HaveNext cnf.clauses (lines_of log)
