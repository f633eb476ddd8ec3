-- A line of notes as a term.
use Rattle.std.specs.Prelude.{ℕ, ◌≡◌, ◌<◌, ◌+◌, ◌-◌, ◌*◌, Bool, List, length}
use Rattle.word_spec.specs.Words.{bit}
use Rattle.word_spec.specs.Memory.{endian}
use Rattle.bilv_spec.specs.Notes.{Expr, value, is_true}
use Rattle.bilv_spec.specs.Points.{line_price, bytes_loaded}
use Rattle.term_spec.specs.Terms.{TermReading, InRange, TermNode, AreTyped, HasWidth, node_at, term_word, width_of}
use Rattle.walk_spec.specs.Unrolled.{Carried, state_at}
use Rattle.term_spec.specs.Passive.{AreNames, Denotes}
use Rattle.walk_spec.specs.Prices.{line_size}
use Rattle.term_dag.specs.Made.{Grew, InputsFrom}
use Rattle.term_names.specs.Views.{form_of, names_of}
use Rattle.note_terms.specs.declared.Now.{Now}
use Rattle.note_terms.specs.Steps.{IsShown, gates_of, nodes_of}

-- under a reading terms are a state: what is carried, at an address
pub record IsStateOf (nodes : List TermNode) (x : TermReading) (n : Now) (c : Carried) (at : ℕ) : Type 0 where
  pub carried : Denotes (form_of n.names.now) nodes x (names_of n.names.now) c
  pub pc : term_word x nodes n.pc.0 ≡ at

-- terms for a state have the widths of what they name
pub record AreStateTerms (nodes : List TermNode) (n : Now) : Type 0 where
  pub names : AreNames (form_of n.names.now) nodes (names_of n.names.now)
  pub pc : HasWidth nodes 32 n.pc.0

-- A bit tells a line under every reading in range: it is 1 exactly where the line is true in the state now, with the state at entry. Of the line's price 64
-- gates are left, and of its nodes 8, for what is done with the bit.
pub record IsLine (old new : List TermNode) (big : Bool) (e : Expr) (now entry : Now) (t : ℕ) : Type 0 where
  pub grew : Grew old new (line_price e - 64) (bytes_loaded e) 0 0 (4 * line_size e + 8)
  pub inputs : InputsFrom old new (λ m. ⊥)
  pub width : HasWidth new 1 t
  pub value : (x : TermReading) → InRange x → (c d : Carried) (at from : ℕ) → IsStateOf old x now c at → IsStateOf old x entry d from →
      term_word x new t ≡ bit (is_true (value (endian big) e (state_at c at) (state_at d from)))

-- A word of 32 bits is the value of an expression under every reading in range, in the state now, with the state at entry. It costs no more than a line.
pub record IsWord (old new : List TermNode) (big : Bool) (e : Expr) (now entry : Now) (t : ℕ) : Type 0 where
  pub grew : Grew old new (line_price e - 64) (bytes_loaded e) 0 0 (4 * line_size e + 8)
  pub inputs : InputsFrom old new (λ m. ⊥)
  pub width : HasWidth new 32 t
  pub value : (x : TermReading) → InRange x → (c d : Carried) (at from : ℕ) → IsStateOf old x now c at → IsStateOf old x entry d from →
      term_word x new t ≡ value (endian big) e (state_at c at) (state_at d from)

-- A term is the value of an expression in the state now, with the state at entry.
pub record IsValue (old new : List TermNode) (big : Bool) (e : Expr) (now entry : Now) (t : ℕ) : Type 0 where
  pub grew : Grew old new (gates_of e) (bytes_loaded e) 0 0 (nodes_of e)
  pub inputs : InputsFrom old new (λ m. ⊥)
  pub typed : AreTyped new
  pub within : t < length new
  pub shown : IsShown (width_of (node_at new t))
  pub value : (x : TermReading) → InRange x → (c d : Carried) (at from : ℕ) → IsStateOf old x now c at → IsStateOf old x entry d from →
      term_word x new t ≡ value (endian big) e (state_at c at) (state_at d from)
