-- What the fast search says. Of values and refutations nothing is said: they are to be checked.
use Rattle.std.specs.Prelude.{ℕ, ◌≤◌, ⊤}
use Rattle.cdcl_engine.specs.declared.Finding.{Finding}
use Rattle.cdcl_engine.specs.declared.Finding.TheVariants.{Values, Refutation, Spent, Full}

-- it gives up for conflicts only after as many clauses as there are conflicts to spend
abbrev pub IsFinding : (conflicts : ℕ) → Finding → Type 0
IsFinding conflicts (Values values) = ⊤
IsFinding conflicts (Refutation log) = ⊤
IsFinding conflicts (Spent learned) = conflicts ≤ learned
IsFinding conflicts Full = ⊤
