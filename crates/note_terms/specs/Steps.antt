-- Steps by which a line becomes a term, and what they may cost.
use Rattle.std.specs.Prelude.{ℕ, ◌≡◌, ◌<◌, ◌≤◌, ◌+◌, ◌⊎◌, Bool, if◌then◌else◌, List, length}
use Rattle.word_spec.specs.Memory.{Endian, load}
use Rattle.machine_spec.specs.Bil.{BinaryOp}
use Rattle.machine_spec.specs.BilTyping.{result_width}
use Rattle.machine_spec.specs.BilCounts.{op_weight}
use Rattle.bilv_spec.specs.Notes as notes
use Rattle.bilv_spec.specs.Notes.{Expr, Op, Number, Register, Flag, Pc, Memory, Old, Not, Binary, apply}
use Rattle.term_spec.specs.Terms.{TermReading, InRange, TermNode, AreTyped, HasWidth, term_value, term_word, width_of, node_at, operate}
use Rattle.term_dag.specs.Made.{Grew, InputsFrom}

-- A value is a bit, where an expression has no other values, or a word of 32 bits.
abbrev pub IsShown : ℕ → Type 0
IsShown w = (w ≡ 1) ⊎ (w ≡ 32)

-- a word of at most 32 bits
pub record IsNarrow (nodes : List TermNode) (t : ℕ) : Type 0 where
  pub within : t < length nodes
  pub some : 1 ≤ width_of (node_at nodes t)
  pub few : width_of (node_at nodes t) ≤ 32

-- the place is that of a value
pub record IsValueAt (nodes : List TermNode) (t : ℕ) : Type 0 where
  pub within : t < length nodes
  pub shown : IsShown (width_of (node_at nodes t))

-- the word of 32 bits that is 0
pub record IsZero (nodes : List TermNode) (t : ℕ) : Type 0 where
  pub word : HasWidth nodes 32 t
  pub value : (x : TermReading) → InRange x → term_word x nodes t ≡ 0

-- A term was made, of a width that fits, which has a value under every reading in range; what is new has at most so many gates, byte loads and nodes, and no
-- input.
pub record IsStep (old new : List TermNode) (gates loads nodes : ℕ) (Fits : ℕ → Type 0) (f : TermReading → ℕ) (t : ℕ) : Type 0 where
  pub grew : Grew old new gates loads 0 0 nodes
  pub inputs : InputsFrom old new (λ m. ⊥)
  pub typed : AreTyped new
  pub within : t < length new
  pub fits : Fits (width_of (node_at new t))
  pub value : (x : TermReading) → InRange x → term_word x new t ≡ f x

-- an operator that is one on words of 32 bits; the others ask whether values count as true
abbrev pub IsOnWords : Op → Type 0
IsOnWords notes.Or = ⊥
IsOnWords notes.And = ⊥
IsOnWords notes.Each = ⊥
IsOnWords o = Unit {0}

-- a bound on the gates of an operator, those that ask whether its operands count as true among them
abbrev pub operator_gates : Op → ℕ
operator_gates notes.Times = 3072
operator_gates o = 384

-- The operator on words is one of terms, whose operands may stand in the other order.
pub record IsOperation (o : Op) (p : BinaryOp) (swapped : Bool) : Type 0 where
  pub gates : op_weight p 32 ≤ operator_gates o
  pub shown : IsShown (result_width p 32)
  pub value : (a b : ℕ) → operate p 32 (if swapped then b else a) (if swapped then a else b) ≡ apply o a b

-- a bound on the gates of an expression
abbrev pub gates_of : Expr → ℕ
gates_of (Memory n e) = gates_of e
gates_of (Old e) = gates_of e
gates_of (Not e) = 384 + gates_of e
gates_of (Binary o a b) = operator_gates o + gates_of a + gates_of b
gates_of e = 0

-- a bound on its nodes
abbrev pub nodes_of : Expr → ℕ
nodes_of (Memory n e) = 4 + nodes_of e
nodes_of (Old e) = 4 + nodes_of e
nodes_of (Not e) = 4 + nodes_of e
nodes_of (Binary o a b) = 7 + nodes_of a + nodes_of b
nodes_of e = 1

-- a binary operator between two values
abbrev pub IsApplied : (old new : List TermNode) → Op → (left right t : ℕ) → Type 0
IsApplied old new o l r t = IsStep old new (operator_gates o) 0 6 IsShown (λ x. apply o (term_word x old l) (term_word x old r)) t

-- whether both of two values count as true, or one of them
abbrev pub IsConnected : (old new : List TermNode) → (both : Bool) → (left right t : ℕ) → Type 0
IsConnected old new both l r t = IsStep old new 384 0 6 IsShown (λ x. apply (if both then notes.And else notes.Or) (term_word x old l) (term_word x old r)) t

-- the number of bytes at an address
abbrev pub IsLoaded : (old new : List TermNode) → (bytes : ℕ) → Endian → (memory address t : ℕ) → Type 0
IsLoaded old new n e m a t = IsStep old new 0 n 4 (λ w. w ≡ 32) (λ x. load e n (term_value x old m).bytes (term_word x old a)) t
