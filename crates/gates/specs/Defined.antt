-- The clauses of a circuit.
use Rattle.std.specs.Prelude.{◌≡◌, ℕ, Bool, true, List}
use Rattle.clause_spec.specs.Clauses.{Clause, Cnf, Satisfies, AreOnVariables, AgreeUpTo}
use Rattle.gates.specs.declared.bit.Bit.{Bit}
use Rattle.gates.specs.Circuits.{Netlist, next, Holds, bit_value}

-- under v each gate has its value, every tie is true, and so is the root
pub record IsMet (c : Netlist) (ties : List Clause) (root : Bit) (v : ℕ → Bool) : Type 0 where
  pub gates : Holds v c
  pub each : Satisfies v ties
  pub top : bit_value v root ≡ true

-- The clauses hold exactly where the gates have their values and all ties and the root are true; and a valuation of the inputs extends to the gates in exactly
-- one way.
pub record IsDefined (c : Netlist) (ties : List Clause) (root : Bit) (cnf : Cnf) : Type 0 where
  pub variables : cnf.variables ≡ next c
  pub over : AreOnVariables cnf.variables cnf.clauses
  pub only : (v : ℕ → Bool) → Satisfies v cnf.clauses → IsMet c ties root v
  pub where_met : (v : ℕ → Bool) → IsMet c ties root v → Satisfies v cnf.clauses
  pub once : (v w : ℕ → Bool) → AgreeUpTo c.inputs v w → Holds v c → Holds w c → AgreeUpTo cnf.variables v w
  pub extends : (a : ℕ → Bool) → (v : ℕ → Bool) × AgreeUpTo c.inputs v a × Holds v c
