-- A node over other places, of which the operands are copies, is a copy of the node.
use Rattle.std.proofs.Common.{◌≡◌, ℕ, ◌*◌, ◌<◌, List, [], ◌∷◌, refl, ap, sym, ◌∙◌, subst}
use Rattle.std.specs.List.{AllByRecursion}
use Rattle.term_spec.specs.Terms.{TermReading, TermValue, TermNode, RegisterNode, FlagNode, ChoiceNode, BaseNode, MemoryNode, ConstantNode, BinaryNode, NotNode, SelectNode, ExtractNode, ConcatNode, ExtendNode, LoadNode, StoreNode, JoinNode, TakeNode, value_at, node_value, values_from, term_value, width_of, node_at, HasWidth, IsTypedOver, own_gates, own_loads, own_stores, own_joins}
use Rattle.walk_spec.specs.Unrolled.{UnrolledProgram}
use Rattle.term_spec.specs.WalkQuestions.{IsNamedBelow}
use Rattle.term_dag.specs.Made.{operands, moved, IsInterned}

-- it has the node's width
pub moved_width : (f : ℕ → ℕ) (n : TermNode) → width_of (moved f n) ≡ width_of n
moved_width f (RegisterNode p r) = refl
moved_width f (FlagNode p r) = refl
moved_width f (ChoiceNode i) = refl
moved_width f (BaseNode p j) = refl
moved_width f (MemoryNode p) = refl
moved_width f (ConstantNode w v) = refl
moved_width f (BinaryNode o w a b) = refl
moved_width f (NotNode w a) = refl
moved_width f (SelectNode w c a b) = refl
moved_width f (ExtractNode hi lo a) = refl
moved_width f (ConcatNode high low a b) = refl
moved_width f (ExtendNode s n m a) = refl
moved_width f (LoadNode n e m a) = refl
moved_width f (StoreNode n e m a v) = refl
moved_width f (JoinNode c a b) = refl
moved_width f (TakeNode n m a p) = refl

pub moved_gates : (f : ℕ → ℕ) (n : TermNode) → own_gates (moved f n) ≡ own_gates n
moved_gates f (RegisterNode p r) = refl
moved_gates f (FlagNode p r) = refl
moved_gates f (ChoiceNode i) = refl
moved_gates f (BaseNode p j) = refl
moved_gates f (MemoryNode p) = refl
moved_gates f (ConstantNode w v) = refl
moved_gates f (BinaryNode o w a b) = refl
moved_gates f (NotNode w a) = refl
moved_gates f (SelectNode w c a b) = refl
moved_gates f (ExtractNode hi lo a) = refl
moved_gates f (ConcatNode high low a b) = refl
moved_gates f (ExtendNode s n m a) = refl
moved_gates f (LoadNode n e m a) = refl
moved_gates f (StoreNode n e m a v) = refl
moved_gates f (JoinNode c a b) = refl
moved_gates f (TakeNode n m a p) = refl

pub moved_loads : (f : ℕ → ℕ) (n : TermNode) → own_loads (moved f n) ≡ own_loads n
moved_loads f (RegisterNode p r) = refl
moved_loads f (FlagNode p r) = refl
moved_loads f (ChoiceNode i) = refl
moved_loads f (BaseNode p j) = refl
moved_loads f (MemoryNode p) = refl
moved_loads f (ConstantNode w v) = refl
moved_loads f (BinaryNode o w a b) = refl
moved_loads f (NotNode w a) = refl
moved_loads f (SelectNode w c a b) = refl
moved_loads f (ExtractNode hi lo a) = refl
moved_loads f (ConcatNode high low a b) = refl
moved_loads f (ExtendNode s n m a) = refl
moved_loads f (LoadNode n e m a) = refl
moved_loads f (StoreNode n e m a v) = refl
moved_loads f (JoinNode c a b) = refl
moved_loads f (TakeNode n m a p) = refl

pub moved_stores : (f : ℕ → ℕ) (n : TermNode) → own_stores (moved f n) ≡ own_stores n
moved_stores f (RegisterNode p r) = refl
moved_stores f (FlagNode p r) = refl
moved_stores f (ChoiceNode i) = refl
moved_stores f (BaseNode p j) = refl
moved_stores f (MemoryNode p) = refl
moved_stores f (ConstantNode w v) = refl
moved_stores f (BinaryNode o w a b) = refl
moved_stores f (NotNode w a) = refl
moved_stores f (SelectNode w c a b) = refl
moved_stores f (ExtractNode hi lo a) = refl
moved_stores f (ConcatNode high low a b) = refl
moved_stores f (ExtendNode s n m a) = refl
moved_stores f (LoadNode n e m a) = refl
moved_stores f (StoreNode n e m a v) = refl
moved_stores f (JoinNode c a b) = refl
moved_stores f (TakeNode n m a p) = refl

pub moved_joins : (f : ℕ → ℕ) (n : TermNode) → own_joins (moved f n) ≡ own_joins n
moved_joins f (RegisterNode p r) = refl
moved_joins f (FlagNode p r) = refl
moved_joins f (ChoiceNode i) = refl
moved_joins f (BaseNode p j) = refl
moved_joins f (MemoryNode p) = refl
moved_joins f (ConstantNode w v) = refl
moved_joins f (BinaryNode o w a b) = refl
moved_joins f (NotNode w a) = refl
moved_joins f (SelectNode w c a b) = refl
moved_joins f (ExtractNode hi lo a) = refl
moved_joins f (ConcatNode high low a b) = refl
moved_joins f (ExtendNode s n m a) = refl
moved_joins f (LoadNode n e m a) = refl
moved_joins f (StoreNode n e m a v) = refl
moved_joins f (JoinNode c a b) = refl
moved_joins f (TakeNode n m a p) = refl

-- and it names what the node does
pub moved_named : (u : UnrolledProgram) (reads : ℕ) (f : ℕ → ℕ) (n : TermNode) → IsNamedBelow u reads n → IsNamedBelow u reads (moved f n)
moved_named u reads f (RegisterNode p r) h = h
moved_named u reads f (FlagNode p r) h = h
moved_named u reads f (ChoiceNode i) h = h
moved_named u reads f (BaseNode p j) h = h
moved_named u reads f (MemoryNode p) h = h
moved_named u reads f (ConstantNode w v) h = h
moved_named u reads f (BinaryNode o w a b) h = h
moved_named u reads f (NotNode w a) h = h
moved_named u reads f (SelectNode w c a b) h = h
moved_named u reads f (ExtractNode hi lo a) h = h
moved_named u reads f (ConcatNode high low a b) h = h
moved_named u reads f (ExtendNode s n m a) h = h
moved_named u reads f (LoadNode n e m a) h = h
moved_named u reads f (StoreNode n e m a v) h = h
moved_named u reads f (JoinNode c a b) h = h
moved_named u reads f (TakeNode n m a p) h = h

at_width : (src dst : List TermNode) (w a b : ℕ) → HasWidth src w a → HasWidth dst (width_of (node_at src a)) b → HasWidth dst w b
at_width src dst w a b p q = (q.0, q.1 ∙ p.1)

-- where its operands have the widths of the node's, it is typed
pub moved_typed : (src dst : List TermNode) (f : ℕ → ℕ) (n : TermNode) → IsTypedOver src n →
    AllByRecursion (λ a. HasWidth dst (width_of (node_at src a)) (f a)) (operands n) →
    IsTypedOver dst (moved f n)
moved_typed src dst f (RegisterNode p r) h m = tt
moved_typed src dst f (FlagNode p r) h m = tt
moved_typed src dst f (ChoiceNode i) h m = tt
moved_typed src dst f (BaseNode p j) h m = tt
moved_typed src dst f (MemoryNode p) h m = tt
moved_typed src dst f (ConstantNode w v) h m = h
moved_typed src dst f (BinaryNode o w a b) h m = (h.0, at_width src dst w a (f a) h.1 m.0, at_width src dst w b (f b) h.2 m.1.0)
moved_typed src dst f (NotNode w a) h m = (h.0, at_width src dst w a (f a) h.1 m.0)
moved_typed src dst f (SelectNode w c a b) h m = (
  h.0,
  at_width src dst 1 c (f c) h.1 m.0,
  at_width src dst w a (f a) h.2 m.1.0,
  at_width src dst w b
      (f b) h.3 m.1.1.0,
)
moved_typed src dst f (ExtractNode hi lo a) h m = (h.0, subst (λ (k : ℕ). hi < k) (sym m.0.1) h.1, m.0.0)
moved_typed src dst f (ConcatNode high low a b) h m = (h.0, h.1, h.2, at_width src dst high a (f a) h.3 m.0, at_width src dst low b (f b) h.4 m.1.0)
moved_typed src dst f (ExtendNode s n k a) h m = (h.0, h.1, h.2, at_width src dst n a (f a) h.3 m.0)
moved_typed src dst f (LoadNode n e i a) h m = (h.0, at_width src dst 0 i (f i) h.1 m.0, at_width src dst 32 a (f a) h.2 m.1.0)
moved_typed src dst f (StoreNode n e i a v) h m = (
  h.0,
  at_width src dst 0 i (f i) h.1 m.0,
  at_width src dst 32 a (f a) h.2 m.1.0,
  at_width src dst (8 * n) v
      (f v) h.3 m.1.1.0,
)
moved_typed src dst f (JoinNode c a b) h m = (at_width src dst 1 c (f c) h.0 m.0, at_width src dst 0 a (f a) h.1 m.1.0, at_width src dst 0 b (f b) h.2 m.1.1.0)
moved_typed src dst f (TakeNode n i a p) h m = (h.0, at_width src dst 0 i (f i) h.1 m.0, at_width src dst 32 a (f a) h.2 m.1.0)

-- where its operands have the values of the node's, it has the node's value
pub moved_value : (x : TermReading) (vs ws : List TermValue) (f : ℕ → ℕ) (n : TermNode) → AllByRecursion (λ a. value_at ws (f a) ≡ value_at vs a) (operands n) →
    node_value x ws (moved f n) ≡ node_value x vs n
moved_value x vs ws f (RegisterNode p r) h = refl
moved_value x vs ws f (FlagNode p r) h = refl
moved_value x vs ws f (ChoiceNode i) h = refl
moved_value x vs ws f (BaseNode p j) h = refl
moved_value x vs ws f (MemoryNode p) h = refl
moved_value x vs ws f (ConstantNode w v) h = refl
moved_value x vs ws f (BinaryNode o w a b) h =
    ap (λ (z : TermValue). node_value x (z ∷ value_at ws (f b) ∷ []) (BinaryNode o w 0 1)) h.0
    ∙ ap (λ (z : TermValue). node_value x (value_at vs a ∷ z ∷ []) (BinaryNode o w 0 1)) h.1.0
moved_value x vs ws f (NotNode w a) h = ap (λ (z : TermValue). node_value x (z ∷ []) (NotNode w 0)) h.0
moved_value x vs ws f (SelectNode w c a b) h =
    ap (λ (z : TermValue). node_value x (z ∷ value_at ws (f a) ∷ value_at ws (f b) ∷ []) (SelectNode w 0 1 2)) h.0
    ∙ ap (λ (z : TermValue). node_value x (value_at vs c ∷ z ∷ value_at ws (f b) ∷ []) (SelectNode w 0 1 2)) h.1.0
    ∙ ap (λ (z : TermValue). node_value x (value_at vs c ∷ value_at vs a ∷ z ∷ []) (SelectNode w 0 1 2)) h.1.1.0
moved_value x vs ws f (ExtractNode hi lo a) h = ap (λ (z : TermValue). node_value x (z ∷ []) (ExtractNode hi lo 0)) h.0
moved_value x vs ws f (ConcatNode high low a b) h =
    ap (λ (z : TermValue). node_value x (z ∷ value_at ws (f b) ∷ []) (ConcatNode high low 0 1)) h.0
    ∙ ap (λ (z : TermValue). node_value x (value_at vs a ∷ z ∷ []) (ConcatNode high low 0 1)) h.1.0
moved_value x vs ws f (ExtendNode s n m a) h = ap (λ (z : TermValue). node_value x (z ∷ []) (ExtendNode s n m 0)) h.0
moved_value x vs ws f (LoadNode n e m a) h =
    ap (λ (z : TermValue). node_value x (z ∷ value_at ws (f a) ∷ []) (LoadNode n e 0 1)) h.0
    ∙ ap (λ (z : TermValue). node_value x (value_at vs m ∷ z ∷ []) (LoadNode n e 0 1)) h.1.0
moved_value x vs ws f (StoreNode n e m a v) h =
    ap (λ (z : TermValue). node_value x (z ∷ value_at ws (f a) ∷ value_at ws (f v) ∷ []) (StoreNode n e 0 1 2)) h.0
    ∙ ap (λ (z : TermValue). node_value x (value_at vs m ∷ z ∷ value_at ws (f v) ∷ []) (StoreNode n e 0 1 2)) h.1.0
    ∙ ap (λ (z : TermValue). node_value x (value_at vs m ∷ value_at vs a ∷ z ∷ []) (StoreNode n e 0 1 2)) h.1.1.0
moved_value x vs ws f (JoinNode c a b) h =
    ap (λ (z : TermValue). node_value x (z ∷ value_at ws (f a) ∷ value_at ws (f b) ∷ []) (JoinNode 0 1 2)) h.0
    ∙ ap (λ (z : TermValue). node_value x (value_at vs c ∷ z ∷ value_at ws (f b) ∷ []) (JoinNode 0 1 2)) h.1.0
    ∙ ap (λ (z : TermValue). node_value x (value_at vs c ∷ value_at vs a ∷ z ∷ []) (JoinNode 0 1 2)) h.1.1.0
moved_value x vs ws f (TakeNode n m a p) h =
    ap (λ (z : TermValue). node_value x (z ∷ value_at ws (f a) ∷ []) (TakeNode n 0 1 p)) h.0
    ∙ ap (λ (z : TermValue). node_value x (value_at vs m ∷ z ∷ []) (TakeNode n 0 1 p)) h.1.0

-- the copy that is kept has the node's value
pub copied : (x : TermReading) (src dst new : List TermNode) (f : ℕ → ℕ) (n : TermNode) (t : ℕ) →
    AllByRecursion (λ a. term_value x dst (f a) ≡ term_value x src a) (operands n) →
    IsInterned dst new (moved f n) t → term_value x new t ≡ node_value x (values_from x [] src) n
copied x src dst new f n t h k = k.value x ∙ moved_value x (values_from x [] src) (values_from x [] dst) f n h
