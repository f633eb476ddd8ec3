-- Copies of a term with all that it is over.
use Rattle.std.specs.Prelude.{ℕ, ◌≡◌, ◌<◌, ◌≤◌, ◌^◌, ◌⊎◌, Bool, true, false, if◌then◌else◌, List, [], ◌∷◌, length, Contains, slice_index_or, slice_set}
use Rattle.std.specs.List.{AllByRecursion}
use Rattle.term_spec.specs.Terms.{TermReading, TermNode, AreTyped, HasWidth, term_value, width_of, node_at, own_gates, own_loads, own_stores, own_joins, term_gates, term_loads, term_stores, term_joins}
use Rattle.term_dag.specs.Made.{Grew, operands, moved}
use Rattle.term_dag.specs.declared.nodes.Term.{Term}

-- no term
abbrev pub no_term : Term
no_term = record { 0 = 0 }

-- the place of the copy of a term
abbrev pub copy_at : List Term → ℕ → ℕ
copy_at copies i = (slice_index_or copies i no_term).0

-- the place of a root, by its number among them
abbrev pub root_at : List Term → ℕ → ℕ
root_at roots k = (slice_index_or roots k no_term).0

-- the roots are terms of a list of so many nodes
abbrev pub AreWithin : List Term → ℕ → Type 0
AreWithin roots n = (k : ℕ) → k < length roots → root_at roots k < n

-- the place is marked
abbrev pub is_marked : List Bool → ℕ → Bool
is_marked marks i = slice_index_or marks i false

-- the marks with more places marked
abbrev pub marked : List Bool → List ℕ → List Bool
marked marks [] = marks
marked marks (i ∷ rest) = marked (slice_set marks i true) rest

-- the marks with the places that a place is over, if that is marked
abbrev pub visited : List TermNode → List Bool → (place : ℕ) → List Bool
visited nodes marks i = if is_marked marks i then marked marks (operands (node_at nodes i)) else marks

-- the place is a root, or one that such a place is over
pub data IsReached (nodes : List TermNode) (roots : List Term) : ℕ → Type 0 where
  itself : (k : ℕ) → k < length roots → IsReached nodes roots (root_at roots k)
  under : {i : ℕ} (a : ℕ) → IsReached nodes roots i → Contains (operands (node_at nodes i)) a → IsReached nodes roots a

-- the first roots are marked, and no other place
pub record AreRootsMarked (roots : List Term) (first : ℕ) (marks : List Bool) : Type 0 where
  pub all : (k : ℕ) → k < first → is_marked marks (root_at roots k) ≡ true
  pub only : (i : ℕ) → is_marked marks i ≡ true → (k : ℕ) × (k < first) × (root_at roots k ≡ i)

-- All places from one on are done: what a marked one of them is over is marked.
pub record AreMarkedFrom (nodes : List TermNode) (roots : List Term) (from : ℕ) (marks : List Bool) : Type 0 where
  pub within : length marks ≤ length nodes
  pub numbered : length marks ≤ 2 ^ 32
  pub few : from ≤ length marks
  pub first : (k : ℕ) → k < length roots → is_marked marks (root_at roots k) ≡ true
  pub only : (i : ℕ) → is_marked marks i ≡ true → IsReached nodes roots i
  pub closed : (i : ℕ) → from ≤ i → i < length marks → is_marked marks i ≡ true → AllByRecursion (λ a. is_marked marks a ≡ true) (operands (node_at nodes i))

-- The marks are those of the places that roots reach.
abbrev pub AreReached : List TermNode → (roots : List Term) → List Bool → Type 0
AreReached nodes roots marks = AreMarkedFrom nodes roots 0 marks

-- the copies of the first roots
pub record ArePicked (copies roots : List Term) (first : ℕ) (ts : List Term) : Type 0 where
  pub count : length ts ≡ first
  pub each : (k : ℕ) → k < first → root_at ts k ≡ copy_at copies (root_at roots k)

-- every reading
abbrev pub Always : TermReading → Type 0
Always x = Unit {0}

-- of each marked place among the first there is a copy, with its width, and with its value under some readings
pub record AreCopies (P : TermReading → Type 0) (source new : List TermNode) (marks : List Bool) (copies : List Term) : Type 0 where
  pub widths : (i : ℕ) → i < length copies → is_marked marks i ≡ true → HasWidth new (width_of (node_at source i)) (copy_at copies i)
  pub values : (x : TermReading) → P x → (i : ℕ) → i < length copies → is_marked marks i ≡ true → term_value x new (copy_at copies i) ≡ term_value x source i

-- a node is that of a marked place, over other places
pub record IsOfMarked (source : List TermNode) (marks : List Bool) (m : TermNode) : Type 0 where
  pub at : ℕ
  pub mark : is_marked marks at ≡ true
  pub within : at < length source
  pub over : ℕ → ℕ
  pub is : m ≡ moved over (node_at source at)

-- a node is that of a place that roots reach, over other places
pub record IsOfReached (source : List TermNode) (roots : List Term) (m : TermNode) : Type 0 where
  pub at : ℕ
  pub reached : IsReached source roots at
  pub within : at < length source
  pub over : ℕ → ℕ
  pub is : m ≡ moved over (node_at source at)

-- a node is one of a list, over other places
pub record IsMoved (source : List TermNode) (m : TermNode) : Type 0 where
  pub node : TermNode
  pub there : Contains source node
  pub over : ℕ → ℕ
  pub is : m ≡ moved over node

-- The copy of a place, if it is marked: its node, and no other is new.
pub record IsCopy (source old new : List TermNode) (marks : List Bool) (i t : ℕ) : Type 0 where
  pub grew : Grew old new (own_gates (node_at source i)) (own_loads (node_at source i)) (own_stores (node_at source i)) (own_joins (node_at source i)) 1
  pub only : (m : TermNode) → Contains new m → Contains old m ⊎ IsOfMarked source marks m
  pub typed : AreTyped new
  pub width : is_marked marks i ≡ true → HasWidth new (width_of (node_at source i)) t
  pub value : (x : TermReading) → is_marked marks i ≡ true → term_value x new t ≡ term_value x source i

-- Terms of a list have their copies in another, with the same widths and values. What is new are nodes that the terms reach, which cost no more than the list.
pub record AreCopiesOf (source old new : List TermNode) (roots ts : List Term) : Type 0 where
  pub grew : Grew old new (term_gates source) (term_loads source) (term_stores source) (term_joins source) (length source)
  pub only : (m : TermNode) → Contains new m → Contains old m ⊎ IsOfReached source roots m
  pub typed : AreTyped new
  pub count : length ts ≡ length roots
  pub widths : (k : ℕ) → k < length roots → HasWidth new (width_of (node_at source (root_at roots k))) (root_at ts k)
  pub values : (x : TermReading) (k : ℕ) → k < length roots → term_value x new (root_at ts k) ≡ term_value x source (root_at roots k)
