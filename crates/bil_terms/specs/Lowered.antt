-- What it means that an expression has become a term.
use Rattle.std.specs.Prelude.{ℕ, ◌≡◌, ◌-◌, ◌*◌, true, false, List}
use Rattle.machine_spec.specs.Bil.{BilType, UnaryOp, Negate, Not, CastKind, Low, High, Signed, Unsigned, Expression, total}
use Rattle.machine_spec.specs.BilTyping.{type_width}
use Rattle.machine_spec.specs.BilCounts.{width, own_stores, own_memory_choices, own_chosen_stores}
use Rattle.machine_spec.specs.BilMeaning.{Word, Bytes, Env, evaluate, unary, unknown}
use Rattle.machine_spec.specs.BilStores.{stored_by}
use Rattle.term_spec.specs.Terms.{TermReading, InRange, TermNode, ChoiceNode, ExtractNode, ExtendNode, HasWidth, HasMemory, IsWidth, term_value, term_word}
use Rattle.term_dag.specs.Made.{Grew, InputsFrom}
use Rattle.term_names.specs.declared.names.Names.{Names}
use Rattle.bil_terms.specs.declared.stored.Stored.{Stored}
use Rattle.bil_terms.specs.declared.variables.LocalTerm.{LocalTerm}
use Rattle.bil_terms.specs.Naming.{Holds}
use Rattle.bil_terms.specs.Gathered.{Gathered, expression_cost}

-- no choice is between memories, and none has a store in a side
abbrev pub IsSteady : Expression → Type 0
IsSteady e = (total own_memory_choices e ≡ 0) × (total own_chosen_stores e ≡ 0)

-- A word: under each reading in range its term has the word of the expression, in each environment that the terms before denote, under the choice of the place.
pub record IsWordTerm
    (old new : List TermNode) (n : Names) (ls : List LocalTerm) (place live : ℕ) (before after : List Stored) (e : Expression) (t : ℕ) : Type 0 where
  pub gathered : Gathered old new n ls place live before after (expression_cost e) (stored_by e)
  pub wide : IsWidth (width e)
  pub at : HasWidth new (width e) t
  pub value : (x : TermReading) → InRange x → (v : Env) → Holds old x n ls v → evaluate e (x.choice place) v ≡ Word (width e) (term_word x new t)

-- A memory. Where nothing is stored it is the one of the names.
pub record IsMemoryTerm
    (old new : List TermNode) (n : Names) (ls : List LocalTerm) (place live : ℕ) (before after : List Stored) (e : Expression) (t : ℕ) : Type 0 where
  pub gathered : Gathered old new n ls place live before after (expression_cost e) (stored_by e)
  pub at : HasMemory new t
  pub kept : total own_stores e ≡ 0 → t ≡ n.memory.0
  pub value : (x : TermReading) → InRange x → (v : Env) → Holds old x n ls v → evaluate e (x.choice place) v ≡ Bytes (term_value x new t).bytes

-- the gates of an operator on one word
abbrev pub unary_gates : UnaryOp → ℕ → ℕ
unary_gates Negate w = 2 * w
unary_gates Not w = 0

-- the low bits of the choice of a place, as a word of a type
pub record IsUnknown (old new : List TermNode) (place : ℕ) (k : BilType) (t : ℕ) : Type 0 where
  pub grew : Grew old new 0 0 0 0 2
  pub inputs : InputsFrom old new (λ m. m ≡ ChoiceNode place)
  pub wide : IsWidth (type_width k)
  pub at : HasWidth new (type_width k) t
  pub value : (x : TermReading) → InRange x → unknown k (x.choice place) ≡ Word (type_width k) (term_word x new t)

-- an operator on one word of a width
pub record IsUnary (old new : List TermNode) (o : UnaryOp) (w a t : ℕ) : Type 0 where
  pub grew : Grew old new (unary_gates o w) 0 0 0 3
  pub inputs : InputsFrom old new (λ m. ⊥)
  pub at : HasWidth new w t
  pub value : (x : TermReading) → InRange x → unary o (Word w (term_word x old a)) ≡ Word w (term_word x new t)

-- the node of a word of a width in another width
abbrev pub cast_node : CastKind → (from to a : ℕ) → TermNode
cast_node Low n m a = ExtractNode (m - 1) 0 a
cast_node High n m a = ExtractNode (n - 1) (n - m) a
cast_node Signed n m a = ExtendNode true n m a
cast_node Unsigned n m a = ExtendNode false n m a
