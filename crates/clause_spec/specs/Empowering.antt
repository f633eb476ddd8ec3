-- Learned clauses that a search may spend its conflicts on: those that unit propagation alone doesn't have already (Pipatsrisawat and Darwiche: empowering
-- implications).
use Rattle.std.specs.Prelude.{◌≡◌, ℕ, true, List, [], ◌∷◌, ◌++◌, length}
use Rattle.clause_spec.specs.Clauses.{Literal, Clause, has, opposite}
use Rattle.clause_spec.specs.UnitPropagation.{Gives, Conflicts, FollowsByUnits, negations_but}
use Rattle.clause_spec.specs.Refutation.{LogLine, Add, Delete, Bad}

-- from the negations of all its literals but one, whichever, unit propagation gives no conflict, and for one of them not that literal either; and no literal
-- stands beside its opposite, since a clause that is true of every valuation says nothing
pub record IsEmpowering (cs : List Clause) (c : Clause) : Type 0 where
  pub plain : (l : Literal) → has c l ≡ true → has c (opposite l) ≡ true → ⊥
  pub no_conflict : (l : Literal) → has c l ≡ true → Conflicts cs (negations_but c l) → ⊥
  pub literal : Literal
  pub among : has c literal ≡ true
  pub not_given : Gives cs (negations_but c literal) literal → ⊥

-- each line adds a clause that follows by unit propagation from the clauses given and those added before it, and is empowering over them
abbrev pub AreLearned : List Clause → List LogLine → Type 0
AreLearned cs [] = Unit {0}
AreLearned cs (Add id c hints ∷ ls) = FollowsByUnits cs c × IsEmpowering cs c × AreLearned (cs ++ c ∷ []) ls
AreLearned cs (Delete id ids ∷ ls) = ⊥
AreLearned cs (Bad ∷ ls) = ⊥

-- a log that spends so many conflicts: it learns that many clauses, and deletes none
abbrev pub IsSpent : List Clause → ℕ → List LogLine → Type 0
IsSpent cs conflicts log = AreLearned cs log × (length log ≡ conflicts)
