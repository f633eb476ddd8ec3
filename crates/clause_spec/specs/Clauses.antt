-- Literals, clauses and valuations (DIMACS CNF: variables count from 1).
use Rattle.std.specs.Prelude.{◌≡◌, ℕ, ◌≤◌, Bool, true, false, not, ◌&&◌, ◌||◌, ◌==◌, List, [], ◌∷◌, slice_index_or, Contains}
use Rattle.word_spec.specs.Words.{differ}

-- a variable, or its negation
pub record Literal : Type 0 where
  pub variable : ℕ
  pub positive : Bool

-- a disjunction of literals
abbrev pub Clause : Type 0
Clause = List Literal

-- clauses over the variables 1 to variables
pub record Cnf : Type 0 where
  pub variables : ℕ
  pub clauses : List Clause

-- two signs are the same
abbrev pub same_sign : Bool → Bool → Bool
same_sign a b = not (differ a b)

-- two literals are the same
abbrev pub same : Literal → Literal → Bool
same l m = (l.variable == m.variable) && same_sign l.positive m.positive

-- the literal that is true where this one is false
abbrev pub opposite : Literal → Literal
opposite l = record { variable = l.variable; positive = not l.positive }

-- the literal is one of the clause
abbrev pub has : Clause → Literal → Bool
has [] l = false
has (m ∷ ms) l = same m l || has ms l

-- a literal under a valuation of the variables
abbrev pub literal_value : (ℕ → Bool) → Literal → Bool
literal_value v l = same_sign (v l.variable) l.positive

-- a clause under a valuation: one of its literals is true
abbrev pub clause_value : (ℕ → Bool) → Clause → Bool
clause_value v [] = false
clause_value v (l ∷ ls) = literal_value v l || clause_value v ls

-- every clause is true under the valuation
abbrev pub Satisfies : (ℕ → Bool) → List Clause → Type 0
Satisfies v cs = (c : Clause) → Contains cs c → clause_value v c ≡ true

-- no valuation makes every clause true
abbrev pub Unsatisfiable : List Clause → Type 0
Unsatisfiable cs = (v : ℕ → Bool) → Satisfies v cs → ⊥

-- the valuation of a list of values, the first of which is that of variable 1; variables behind the list are false
abbrev pub valuation : List Bool → ℕ → Bool
valuation vs n = slice_index_or (false ∷ vs) n false

-- every literal is over a variable from 1 to n
abbrev pub IsOnVariables : ℕ → Clause → Type 0
IsOnVariables n c = (l : Literal) → has c l ≡ true → (1 ≤ l.variable) × (l.variable ≤ n)

-- every clause is over variables from 1 to n
abbrev pub AreOnVariables : ℕ → List Clause → Type 0
AreOnVariables n cs = (c : Clause) → Contains cs c → IsOnVariables n c

-- two valuations agree on the variables 1 to n
abbrev pub AgreeUpTo : ℕ → (ℕ → Bool) → (ℕ → Bool) → Type 0
AgreeUpTo n v w = (i : ℕ) → 1 ≤ i → i ≤ n → v i ≡ w i

-- The clauses define a set of valuations of the inputs, which are the first variables: a valuation of the inputs extends to the others in at most one way
-- that satisfies the clauses, and it extends exactly where a fact holds of it. The fact speaks of no variable but the inputs.
pub record ExtendsOnceWhere (inputs : ℕ) (cnf : Cnf) (Fact : (ℕ → Bool) → Type 0) : Type 0 where
  pub over : AreOnVariables cnf.variables cnf.clauses
  pub once : (v w : ℕ → Bool) → AgreeUpTo inputs v w → Satisfies v cnf.clauses → Satisfies w cnf.clauses → AgreeUpTo cnf.variables v w
  pub only : (v : ℕ → Bool) → Satisfies v cnf.clauses → Fact v
  pub where_true : (a : ℕ → Bool) → Fact a → (v : ℕ → Bool) × AgreeUpTo inputs v a × Satisfies v cnf.clauses
