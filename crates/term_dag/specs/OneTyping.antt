-- A list of nodes is typed in one way: each of these facts has one proof at most.
use Rattle.std.specs.Prelude.{ℕ, ◌≡◌, List, [], ◌∷◌, ◌++◌, ◌*◌}
use Rattle.std.proofs.Common.{ap}
use Rattle.std.specs.Coded.{×_prop, Unit-prop, le_prop, Coded-set, coded_ℕ}
use Rattle.term_spec.specs.Terms.{TermNode, RegisterNode, FlagNode, ChoiceNode, BaseNode, MemoryNode, ConstantNode, BinaryNode, NotNode, SelectNode, ExtractNode, ConcatNode, ExtendNode, LoadNode, StoreNode, JoinNode, TakeNode, HasWidth, IsWidth, IsTypedOver, AreTypedFrom, AreTyped}

equal_prop : {a b : ℕ} → IsProp (a ≡ b)
equal_prop = Coded-set coded_ℕ _ _

three_prop : {A B C : Type 0} → IsProp A → IsProp B → IsProp C → IsProp (A × B × C)
three_prop {A} {B} {C} a b c x y =
    ap (λ (p : A × (B × C)). let t : A × B × C = (p.0, p.1.0, p.1.1) in t) (×_prop a (×_prop b c) (x.0, (x.1, x.2)) (y.0, (y.1, y.2)))

four_prop : {A B C D : Type 0} → IsProp A → IsProp B → IsProp C → IsProp D → IsProp (A × B × C × D)
four_prop {A} {B} {C} {D} a b c d x y =
    ap (λ (p : A × (B × C × D)). let t : A × B × C × D = (p.0, p.1.0, p.1.1, p.1.2) in t)
    (×_prop a (three_prop b c d) (x.0, (x.1, x.2, x.3)) (y.0, (y.1, y.2, y.3)))

five_prop : {A B C D E : Type 0} → IsProp A → IsProp B → IsProp C → IsProp D → IsProp E → IsProp (A × B × C × D × E)
five_prop {A} {B} {C} {D} {E} a b c d e x y =
    ap (λ (p : A × (B × C × D × E)). let t : A × B × C × D × E = (p.0, p.1.0, p.1.1, p.1.2, p.1.3) in t)
    (×_prop a (four_prop b c d e) (x.0, (x.1, x.2, x.3, x.4)) (y.0, (y.1, y.2, y.3, y.4)))

HasWidth-prop : (ns : List TermNode) (w t : ℕ) → IsProp (HasWidth ns w t)
HasWidth-prop ns w t = ×_prop le_prop equal_prop

IsWidth-prop : (w : ℕ) → IsProp (IsWidth w)
IsWidth-prop w = ×_prop le_prop le_prop

IsTypedOver-prop : (ns : List TermNode) (n : TermNode) → IsProp (IsTypedOver ns n)
IsTypedOver-prop ns (RegisterNode p n) = Unit-prop
IsTypedOver-prop ns (FlagNode p f) = Unit-prop
IsTypedOver-prop ns (ChoiceNode i) = Unit-prop
IsTypedOver-prop ns (BaseNode p j) = Unit-prop
IsTypedOver-prop ns (MemoryNode p) = Unit-prop
IsTypedOver-prop ns (ConstantNode w v) = ×_prop (IsWidth-prop w) le_prop
IsTypedOver-prop ns (BinaryNode o w a b) = three_prop (IsWidth-prop w) (HasWidth-prop ns w a) (HasWidth-prop ns w b)
IsTypedOver-prop ns (NotNode w a) = ×_prop (IsWidth-prop w) (HasWidth-prop ns w a)
IsTypedOver-prop ns (SelectNode w c a b) = four_prop (IsWidth-prop w) (HasWidth-prop ns 1 c) (HasWidth-prop ns w a) (HasWidth-prop ns w b)
IsTypedOver-prop ns (ExtractNode hi lo a) = three_prop le_prop le_prop le_prop
IsTypedOver-prop ns (ConcatNode high low a b) =
    five_prop (IsWidth-prop high) (IsWidth-prop low) le_prop (HasWidth-prop ns high a) (HasWidth-prop ns low b)
IsTypedOver-prop ns (ExtendNode signed n m a) = four_prop (IsWidth-prop n) le_prop le_prop (HasWidth-prop ns n a)
IsTypedOver-prop ns (LoadNode n e m a) = three_prop (×_prop le_prop le_prop) (HasWidth-prop ns 0 m) (HasWidth-prop ns 32 a)
IsTypedOver-prop ns (StoreNode n e m a v) =
    four_prop (×_prop le_prop le_prop) (HasWidth-prop ns 0 m) (HasWidth-prop ns 32 a) (HasWidth-prop ns (8 * n) v)
IsTypedOver-prop ns (JoinNode c a b) = three_prop (HasWidth-prop ns 1 c) (HasWidth-prop ns 0 a) (HasWidth-prop ns 0 b)
IsTypedOver-prop ns (TakeNode n m a p) = three_prop le_prop (HasWidth-prop ns 0 m) (HasWidth-prop ns 32 a)

AreTypedFrom-prop : (before nodes : List TermNode) → IsProp (AreTypedFrom before nodes)
AreTypedFrom-prop before [] = Unit-prop
AreTypedFrom-prop before (n ∷ ns) = ×_prop (IsTypedOver-prop before n) (AreTypedFrom-prop (before ++ n ∷ []) ns)

pub AreTyped-prop : (nodes : List TermNode) → IsProp (AreTyped nodes)
AreTyped-prop nodes = AreTypedFrom-prop [] nodes
