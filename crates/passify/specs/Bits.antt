-- What it means that a step makes a term.
use Rattle.std.specs.Prelude.{ℕ, Bool, ◌&&◌, not, List}
use Rattle.term_spec.specs.Terms.{TermReading, InRange, TermNode, AreTyped, HasWidth}
use Rattle.term_spec.specs.Passive.{Tells}
use Rattle.term_dag.specs.Made.{Grew, InputsFrom}

-- The list of nodes has grown by at most so many gates and nodes, without an input, and has a term of a width; what is claimed of it holds under every reading
-- in range.
pub record Makes (old new : List TermNode) (gates nodes wide t : ℕ) (claim : TermReading → Type 0) : Type 0 where
  pub grew : Grew old new gates 0 0 0 nodes
  pub inputs : InputsFrom old new (λ m. ⊥)
  pub typed : AreTyped new
  pub width : HasWidth new wide t
  pub holds : (x : TermReading) → InRange x → claim x

-- a bit tells what a test gives of what another bit tells
abbrev pub TellsBy : (Bool → Bool) → (old new : List TermNode) → (a t : ℕ) → TermReading → Type 0
TellsBy f old new a t x = (p : Bool) → Tells old x a p → Tells new x t (f p)

-- a bit tells what a test gives of what two other bits tell
abbrev pub TellsByBoth : (Bool → Bool → Bool) → (old new : List TermNode) → (a b t : ℕ) → TermReading → Type 0
TellsByBoth f old new a b t x = (p q : Bool) → Tells old x a p → Tells old x b q → Tells new x t (f p q)

-- Two bits are made of two others: both are 1, and the first is 1 without the second.
pub record IsSplit (old new : List TermNode) (rest bit on off : ℕ) : Type 0 where
  pub grew : Grew old new 2 0 0 0 6
  pub inputs : InputsFrom old new (λ m. ⊥)
  pub typed : AreTyped new
  pub on_bit : HasWidth new 1 on
  pub off_bit : HasWidth new 1 off
  pub tells_on : (x : TermReading) → InRange x → TellsByBoth (λ p q. p && q) old new rest bit on x
  pub tells_off : (x : TermReading) → InRange x → TellsByBoth (λ p q. p && not q) old new rest bit off x
