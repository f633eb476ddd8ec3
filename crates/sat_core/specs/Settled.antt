-- What the fast search comes to, after its answer was checked.
use Rattle.std.specs.Prelude.{ℕ, ◌≤◌, ⊤}
use Rattle.clause_spec.specs.Clauses.{Cnf}
use Rattle.sat_core.specs.declared.settle.Settled as declared
use Rattle.sat_core.specs.declared.settle.Settled.TheVariants.{Answer, Spent, Open}
use Rattle.sat_core.specs.Answers.{IsAnswer}

-- an answer is right, and conflicts are spent only by as many clauses
abbrev pub IsSettled : Cnf → (conflicts : ℕ) → declared.Settled → Type 0
IsSettled cnf conflicts (Answer answer) = IsAnswer cnf conflicts answer
IsSettled cnf conflicts (Spent learned) = conflicts ≤ learned
IsSettled cnf conflicts Open = ⊤
