-- What a node may be folded to: whatever has its width, its value under every reading in range, and no more cost.
use Rattle.std.specs.Prelude.{◌≡◌, ℕ, ◌+◌, ◌-◌, ◌^◌, ◌<◌, ◌≤◌, Bool, true, false, bit_and, List, [], length}
use Rattle.word_spec.specs.Words as words
use Rattle.word_spec.specs.Words.{bit}
use Rattle.machine_spec.specs.Bil.{BinaryOp}
use Rattle.machine_spec.specs.BilTyping.{result_width}
use Rattle.machine_spec.specs.BilCounts.{op_weight}
use Rattle.term_spec.specs.Terms.{TermReading, InRange, TermValue, TermNode, word_value, operate, node_value, values_from, term_value, term_word, width_of, node_at, HasWidth, IsWidth, IsTypedOver, own_gates, own_loads, own_stores, own_joins}
use Rattle.term_dag.specs.declared.folds.Folded.{Folded}
use Rattle.term_dag.specs.declared.folds.Folded.TheVariants.{Old, New, Onto, Unless}
use Rattle.term_dag.specs.declared.conditions.Literal.{Literal}
use Rattle.term_dag.specs.declared.conditions.Cube.{Cube}
use Rattle.bil_ast.specs.Views.{binary_of}
use Rattle.term_dag.specs.Nodes.{IsInput, node_of}

-- the value of a node over the terms of a list
abbrev pub value_over : List TermNode → TermNode → TermReading → TermValue
value_over ns n x = node_value x (values_from x [] ns) n

-- a term that is there
pub record IsTermFor (ns : List TermNode) (n : TermNode) (t : ℕ) : Type 0 where
  pub within : t < length ns
  pub width : width_of (node_at ns t) ≡ width_of n
  pub value : (x : TermReading) → InRange x → term_value x ns t ≡ value_over ns n x

-- another node, which is no input that the node itself is not
pub record IsNodeFor (ns : List TermNode) (n m : TermNode) : Type 0 where
  pub typed : IsTypedOver ns m
  pub width : width_of m ≡ width_of n
  pub value : (x : TermReading) → InRange x → value_over ns m x ≡ value_over ns n x
  pub gates : own_gates m ≤ own_gates n
  pub loads : own_loads m ≤ own_loads n
  pub stores : own_stores m ≤ own_stores n
  pub joins : own_joins m ≤ own_joins n
  pub named : IsInput m → m ≡ n

-- an operator between a term and a constant
pub record IsOntoFor (ns : List TermNode) (n : TermNode) (o : BinaryOp) (w t c : ℕ) : Type 0 where
  pub some : IsWidth w
  pub first : HasWidth ns w t
  pub second : c < 2 ^ w
  pub width : result_width o w ≡ width_of n
  pub value : (x : TermReading) → InRange x → word_value (operate o w (term_word x ns t) c) ≡ value_over ns n x
  pub gates : op_weight o w ≤ own_gates n

-- a bit `and` the negation of another
pub record IsUnlessFor (ns : List TermNode) (n : TermNode) (a b : ℕ) : Type 0 where
  pub first : HasWidth ns 1 a
  pub second : HasWidth ns 1 b
  pub width : 1 ≡ width_of n
  pub value : (x : TermReading) → InRange x → word_value (bit_and (term_word x ns a) (words.complement 1 (term_word x ns b))) ≡ value_over ns n x
  pub gates : 1 ≤ own_gates n

-- what a node is folded to
abbrev pub IsFold : List TermNode → TermNode → Folded → Type 0
IsFold ns n (Old t) = IsTermFor ns n t.0
IsFold ns n (New m) = IsNodeFor ns n (node_of m)
IsFold ns n (Onto o w t c) = IsOntoFor ns n (binary_of o) w t.0 c
IsFold ns n (Unless a b) = IsUnlessFor ns n a.0 b.0

-- a word of a width: a term that has a value
pub record IsTermWord (ns : List TermNode) (w : ℕ) (f : TermReading → ℕ) (t : ℕ) : Type 0 where
  pub place : HasWidth ns w t
  pub value : (x : TermReading) → InRange x → term_word x ns t ≡ f x

-- a node that is no input and has a value, within so many gates
pub record IsNodeWord (ns : List TermNode) (w : ℕ) (f : TermReading → ℕ) (g : ℕ) (m : TermNode) : Type 0 where
  pub typed : IsTypedOver ns m
  pub width : width_of m ≡ w
  pub value : (x : TermReading) → InRange x → value_over ns m x ≡ word_value (f x)
  pub gates : own_gates m ≤ g
  pub loads : own_loads m ≡ 0
  pub stores : own_stores m ≡ 0
  pub joins : own_joins m ≡ 0
  pub derived : IsInput m → ⊥

-- an operator between a term and a constant that has a value, within so many gates
pub record IsOntoWord (ns : List TermNode) (w : ℕ) (f : TermReading → ℕ) (g : ℕ) (o : BinaryOp) (k t c : ℕ) : Type 0 where
  pub some : IsWidth k
  pub first : HasWidth ns k t
  pub second : c < 2 ^ k
  pub width : result_width o k ≡ w
  pub value : (x : TermReading) → InRange x → operate o k (term_word x ns t) c ≡ f x
  pub gates : op_weight o k ≤ g

-- a bit `and` the negation of another, where that has a value, within so many gates
pub record IsUnlessWord (ns : List TermNode) (w : ℕ) (f : TermReading → ℕ) (g a b : ℕ) : Type 0 where
  pub first : HasWidth ns 1 a
  pub second : HasWidth ns 1 b
  pub width : 1 ≡ w
  pub value : (x : TermReading) → InRange x → bit_and (term_word x ns a) (words.complement 1 (term_word x ns b)) ≡ f x
  pub gates : 1 ≤ g

-- what a word of a width, a value and a bound on its gates is folded to
abbrev pub IsWordFold : List TermNode → (w : ℕ) → (f : TermReading → ℕ) → (g : ℕ) → Folded → Type 0
IsWordFold ns w f g (Old t) = IsTermWord ns w f t.0
IsWordFold ns w f g (New m) = IsNodeWord ns w f g (node_of m)
IsWordFold ns w f g (Onto o k t c) = IsOntoWord ns w f g (binary_of o) k t.0 c
IsWordFold ns w f g (Unless a b) = IsUnlessWord ns w f g a.0 b.0

-- a term is a constant
pub record IsConstant (ns : List TermNode) (t c : ℕ) : Type 0 where
  pub value : (x : TermReading) → term_word x ns t ≡ c
  pub below : c < 2 ^ width_of (node_at ns t)

-- a term is the sum of a base and an offset
pub record IsSum (ns : List TermNode) (w t base offset : ℕ) : Type 0 where
  pub place : HasWidth ns w base
  pub below : offset < 2 ^ w
  pub value : (x : TermReading) → InRange x → term_word x ns t ≡ words.add w (term_word x ns base) offset

-- operands may change places
abbrev pub IsSymmetric : BinaryOp → Type 0
IsSymmetric o = (w a b : ℕ) → operate o w a b ≡ operate o w b a

-- a bit, or its negation
abbrev pub signed_bit : (negated : Bool) → ℕ → ℕ
signed_bit true b = 1 - b
signed_bit false b = b

-- the value of a literal where terms have these bits
abbrev pub literal_value : Literal → (ℕ → ℕ) → ℕ
literal_value l v = signed_bit l.negated (v l.term.0)

-- the value of a conjunction of two literals
abbrev pub cube_value : Cube → (ℕ → ℕ) → ℕ
cube_value c v = bit_and (literal_value c.first v) (literal_value c.second v)

-- each of the terms that the values speak of has a bit
abbrev pub AreBits : (ℕ → ℕ) → Cube → Type 0
AreBits v c = (v c.first.term.0 < 2) × (v c.second.term.0 < 2)

-- a bit is a literal
pub record IsLiteral (ns : List TermNode) (t : ℕ) (l : Literal) : Type 0 where
  pub place : HasWidth ns 1 l.term.0
  pub value : (x : TermReading) → InRange x → term_word x ns t ≡ literal_value l (term_word x ns)

-- two bits are the literals of a conjunction
pub record IsPair (ns : List TermNode) (c : Cube) : Type 0 where
  pub left : HasWidth ns 1 c.left.0
  pub right : HasWidth ns 1 c.right.0
  pub first : IsLiteral ns c.left.0 c.first
  pub second : IsLiteral ns c.right.0 c.second

-- a bit is the conjunction of two
pub record IsCube (ns : List TermNode) (t : ℕ) (c : Cube) : Type 0 where
  pub pair : IsPair ns c
  pub value : (x : TermReading) → InRange x → term_word x ns t ≡ cube_value c (term_word x ns)

-- the bits hi to lo of a term are those of another
pub record IsSlice (ns : List TermNode) (hi lo t h l u : ℕ) : Type 0 where
  pub order : l ≤ h
  pub width : h + 1 - l ≡ hi + 1 - lo
  pub within : u < length ns
  pub fits : h < width_of (node_at ns u)
  pub value : (x : TermReading) → InRange x → words.bits hi lo (term_word x ns t) ≡ words.bits h l (term_word x ns u)

-- a term has the value of another where the condition holds, or where it does not
pub record IsSide (ns : List TermNode) (w condition t : ℕ) (holds : Bool) (u : ℕ) : Type 0 where
  pub place : HasWidth ns w u
  pub value : (x : TermReading) → InRange x → term_word x ns condition ≡ bit holds → term_value x ns u ≡ term_value x ns t

-- two terms are neighbouring bits of a third
pub record AreNeighbours (ns : List TermNode) (upper lower hi lo t : ℕ) : Type 0 where
  pub order : lo ≤ hi
  pub within : t < length ns
  pub fits : hi < width_of (node_at ns t)
  pub width : hi + 1 - lo ≡ width_of (node_at ns upper) + width_of (node_at ns lower)
  pub value : (x : TermReading) → InRange x → words.bits hi lo (term_word x ns t)
      ≡ words.concat (width_of (node_at ns lower)) (term_word x ns upper) (term_word x ns lower)
