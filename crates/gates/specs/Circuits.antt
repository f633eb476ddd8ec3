-- Bits, gates, and the valuations that a circuit allows. A valuation is one of the clauses': variable i of a circuit is the clauses' variable i + 1.
use Rattle.std.specs.Prelude.{◌≡◌, ◌==◌, ℕ, suc, ◌+◌, ◌/◌, ◌%◌, ◌<◌, ◌≤◌, Bool, true, false, not, cond, ◌&&◌, ◌||◌, List, [], ◌∷◌, length, All}
use Rattle.std.specs.Bool.{beq}
use Rattle.word_spec.specs.Words.{differ}
use Rattle.clause_spec.specs.Clauses.{Literal, literal_value}
use Rattle.gates.specs.declared.bit.Bit.{Bit}
use Rattle.gates.specs.declared.gate.Gate.{Gate}
use Rattle.gates.specs.declared.gate.Gate.TheVariants.{And, Xor, Ite, Parity, Majority, Same}

-- a bit's variable, from 0
abbrev pub variable_of : Bit → ℕ
variable_of b = b.code / 2

-- the literal of the clauses that a bit is
abbrev pub literal_of : Bit → Literal
literal_of b = record { variable = suc (variable_of b); positive = b.code % 2 == 0 }

-- a bit under a valuation
unfoldable pub bit_value : (ℕ → Bool) → Bit → Bool
bit_value v b = literal_value v (literal_of b)

-- at least two of three
abbrev pub majority : Bool → Bool → Bool → Bool
majority a b c = cond a (b || c) (b && c)

-- one or all of three
abbrev pub parity : Bool → Bool → Bool → Bool
parity a b c = differ (differ a b) c

-- the first is true, and the others are equal
abbrev pub same : Bool → Bool → Bool → Bool
same s a b = s && not (differ a b)

-- what a gate says of the bits before it
abbrev pub gate_value : (ℕ → Bool) → Gate → Bool
gate_value v (And a b) = bit_value v a && bit_value v b
gate_value v (Xor a b) = differ (bit_value v a) (bit_value v b)
gate_value v (Ite c a b) = cond (bit_value v c) (bit_value v a) (bit_value v b)
gate_value v (Parity a b c) = parity (bit_value v a) (bit_value v b) (bit_value v c)
gate_value v (Majority a b c) = majority (bit_value v a) (bit_value v b) (bit_value v c)
gate_value v (Same s a b) = same (bit_value v s) (bit_value v a) (bit_value v b)

-- each variable of the gate is below n
abbrev pub IsGateBelow : ℕ → Gate → Type 0
IsGateBelow n (And a b) = (variable_of a < n) × (variable_of b < n)
IsGateBelow n (Xor a b) = (variable_of a < n) × (variable_of b < n)
IsGateBelow n (Ite c a b) = (variable_of c < n) × (variable_of a < n) × (variable_of b < n)
IsGateBelow n (Parity a b c) = (variable_of a < n) × (variable_of b < n) × (variable_of c < n)
IsGateBelow n (Majority a b c) = (variable_of a < n) × (variable_of b < n) × (variable_of c < n)
IsGateBelow n (Same s a b) = (variable_of s < n) × (variable_of a < n) × (variable_of b < n)

-- the gates are the variables from n on, each over earlier variables
abbrev pub InOrder : ℕ → List Gate → Type 0
InOrder n [] = Unit {0}
InOrder n (g ∷ gs) = IsGateBelow n g × InOrder (suc n) gs

-- under v each gate, from the variable n on, has its value
abbrev pub gates_hold : (ℕ → Bool) → ℕ → List Gate → Bool
gates_hold v n [] = true
gates_hold v n (g ∷ gs) = beq (v (suc n)) (gate_value v g) && gates_hold v (suc n) gs

-- what a contract sees of a circuit: its inputs are the first variables, the next one is true, and behind it there is a variable for each gate
pub record Netlist : Type 0 where
  pub inputs : ℕ
  pub gates : List Gate

-- how many variables there are
abbrev pub next : Netlist → ℕ
next c = c.inputs + 1 + length c.gates

-- v gives each variable that is no input its value
unfoldable pub holds : (ℕ → Bool) → Netlist → Bool
holds v c = v (suc c.inputs) && gates_hold v (c.inputs + 1) c.gates

abbrev pub Holds : (ℕ → Bool) → Netlist → Type 0
Holds v c = holds v c ≡ true

-- each bit of the word is over a variable below n
pub record Within (n : ℕ) (bs : List Bit) : Type 0 where
  pub each : All (λ (b : Bit). variable_of b < n) bs

-- new has the variables of old, with the same values, and at most n more
pub record Grows (old new : Netlist) (n : ℕ) : Type 0 where
  pub same_inputs : new.inputs ≡ old.inputs
  pub more : next old ≤ next new
  pub cost : next new ≤ next old + n
  pub keeps : (v : ℕ → Bool) → Holds v new → Holds v old

-- a bit of new, which was made from old with at most n gates
pub record IsBit (old new : Netlist) (n : ℕ) (b : Bit) : Type 0 where
  pub grows : Grows old new n
  pub within : variable_of b < next new

-- one of the bits is true
abbrev pub any_of : (ℕ → Bool) → List Bit → Bool
any_of v [] = false
any_of v (b ∷ bs) = bit_value v b || any_of v bs
