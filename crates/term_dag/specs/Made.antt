-- What it means that a list of nodes has got a node, that a term stands for one, and that a list has grown.
use Rattle.std.specs.Prelude.{◌≡◌, ℕ, ◌+◌, ◌<◌, ◌≤◌, ◌⊎◌, List, [], ◌∷◌, ◌++◌, length, slice_get, Contains}
use Rattle.term_spec.specs.Terms.{TermReading, InRange, TermNode, BinaryNode, NotNode, SelectNode, ExtractNode, ConcatNode, ExtendNode, LoadNode, StoreNode, JoinNode, TakeNode, node_value, values_from, term_value, term_word, width_of, node_at, AreTyped, term_gates, term_loads, term_stores, term_joins, own_gates, own_loads, own_stores, own_joins}
use Rattle.term_dag.specs.Nodes.{IsInput}

-- the new list is the old one with more nodes behind
abbrev pub Extends : (old new : List TermNode) → Type 0
Extends old new = (more : List TermNode) × (new ≡ old ++ more)

-- each input among the new nodes was there, or is one of some more
abbrev pub InputsFrom : (old new : List TermNode) → (more : TermNode → Type 0) → Type 0
InputsFrom old new more = (m : TermNode) → Contains new m → IsInput m → Contains old m ⊎ more m

-- what new nodes cost is within that of a node
pub record IsWithinCost (old new : List TermNode) (n : TermNode) : Type 0 where
  pub gates : term_gates new ≤ term_gates old + own_gates n
  pub loads : term_loads new ≤ term_loads old + own_loads n
  pub stores : term_stores new ≤ term_stores old + own_stores n
  pub joins : term_joins new ≤ term_joins old + own_joins n

-- The new list has a term for a node over the old one. Terms of the old list keep their places, values and widths; the term has the node's width, and under
-- every reading in range the node's value. At most two nodes are new, they cost no more than the node, and none is an input but for the node itself. Where the
-- node is a word, so is each new node.
pub record IsMade (old new : List TermNode) (n : TermNode) (t : ℕ) : Type 0 where
  pub extends : Extends old new
  pub keeps : (x : TermReading) (i : ℕ) → i < length old → term_value x new i ≡ term_value x old i
  pub widths : (i : ℕ) → i < length old → width_of (node_at new i) ≡ width_of (node_at old i)
  pub within : t < length new
  pub width : width_of (node_at new t) ≡ width_of n
  pub value : (x : TermReading) → InRange x → term_value x new t ≡ node_value x (values_from x [] old) n
  pub few : length new ≤ length old + 2
  pub cost : IsWithinCost old new n
  pub typed : AreTyped new
  pub named : InputsFrom old new (λ m. m ≡ n)
  pub words : 1 ≤ width_of n → (m : TermNode) → Contains new m → Contains old m ⊎ (1 ≤ width_of m)

-- no two places hold equal nodes
abbrev pub AreDistinct : List TermNode → Type 0
AreDistinct nodes = (i j : ℕ) → i < j → j < length nodes → slice_get nodes i ≡ slice_get nodes j → ⊥

-- a separator: it is 1 where the condition is, and 0 where the condition is 0 and the other bit is 1
pub record Separates (nodes : List TermNode) (condition met t : ℕ) : Type 0 where
  pub bit : (t < length nodes) × (width_of (node_at nodes t) ≡ 1)
  pub first : (x : TermReading) → InRange x → term_word x nodes condition ≡ 1 → term_word x nodes t ≡ 1
  pub second : (x : TermReading) → InRange x → term_word x nodes met ≡ 1 → term_word x nodes condition ≡ 0 → term_word x nodes t ≡ 0

-- The new list has a place that holds a node over the old one, which it extends by at most that node. Terms of the old list keep their places, values and
-- widths, and under every reading the place has the node's value.
pub record IsInterned (old new : List TermNode) (n : TermNode) (t : ℕ) : Type 0 where
  pub extends : Extends old new
  pub keeps : (x : TermReading) (i : ℕ) → i < length old → term_value x new i ≡ term_value x old i
  pub widths : (i : ℕ) → i < length old → width_of (node_at new i) ≡ width_of (node_at old i)
  pub typed : AreTyped new
  pub within : t < length new
  pub stored : node_at new t ≡ n
  pub value : (x : TermReading) → term_value x new t ≡ node_value x (values_from x [] old) n
  pub few : length new ≤ length old + 1
  pub cost : IsWithinCost old new n
  pub only : (m : TermNode) → Contains new m → Contains old m ⊎ (m ≡ n)

-- A list of nodes has grown: its terms keep their places, values and widths, and what is new has at most so many gates, byte loads, byte stores, joins and
-- nodes.
pub record Grew (old new : List TermNode) (g l s j n : ℕ) : Type 0 where
  pub extends : Extends old new
  pub keeps : (x : TermReading) (i : ℕ) → i < length old → term_value x new i ≡ term_value x old i
  pub widths : (i : ℕ) → i < length old → width_of (node_at new i) ≡ width_of (node_at old i)
  pub gates : term_gates new ≤ term_gates old + g
  pub loads : term_loads new ≤ term_loads old + l
  pub stores : term_stores new ≤ term_stores old + s
  pub joins : term_joins new ≤ term_joins old + j
  pub few : length new ≤ length old + n

-- the places that a node is over
abbrev pub operands : TermNode → List ℕ
operands (BinaryNode o w a b) = a ∷ b ∷ []
operands (NotNode w a) = a ∷ []
operands (SelectNode w c a b) = c ∷ a ∷ b ∷ []
operands (ExtractNode hi lo a) = a ∷ []
operands (ConcatNode high low a b) = a ∷ b ∷ []
operands (ExtendNode signed n m a) = a ∷ []
operands (LoadNode n e m a) = m ∷ a ∷ []
operands (StoreNode n e m a v) = m ∷ a ∷ v ∷ []
operands (JoinNode c a b) = c ∷ a ∷ b ∷ []
operands (TakeNode n m a p) = m ∷ a ∷ []
operands n = []

-- the node over other places
abbrev pub moved : (ℕ → ℕ) → TermNode → TermNode
moved f (BinaryNode o w a b) = BinaryNode o w (f a) (f b)
moved f (NotNode w a) = NotNode w (f a)
moved f (SelectNode w c a b) = SelectNode w (f c) (f a) (f b)
moved f (ExtractNode hi lo a) = ExtractNode hi lo (f a)
moved f (ConcatNode high low a b) = ConcatNode high low (f a) (f b)
moved f (ExtendNode signed n m a) = ExtendNode signed n m (f a)
moved f (LoadNode n e m a) = LoadNode n e (f m) (f a)
moved f (StoreNode n e m a v) = StoreNode n e (f m) (f a) (f v)
moved f (JoinNode c a b) = JoinNode (f c) (f a) (f b)
moved f (TakeNode n m a p) = TakeNode n (f m) (f a) p
moved f n = n
