-- Laws on lists of nodes, and on the values that their nodes have.
use Rattle.std.proofs.Common.{◌≡◌, ℕ, zero, suc, ◌+◌, ◌*◌, ◌<◌, ◌≤◌, List, [], ◌∷◌, ◌++◌, length, get_or, refl, ap, sym, ◌∙◌, subst, arith, append_assoc, append-nil, length-append, take}
use Rattle.std.proofs.lemmas.List.{get_or_append_left}
use Rattle.term_spec.specs.Terms.{TermReading, TermValue, TermNode, RegisterNode, FlagNode, ChoiceNode, BaseNode, MemoryNode, ConstantNode, BinaryNode, NotNode, SelectNode, ExtractNode, ConcatNode, ExtendNode, LoadNode, StoreNode, JoinNode, TakeNode, word_value, value_at, node_value, values_from, term_value, width_of, node_at, HasWidth, IsTypedOver, AreTypedFrom, AreTyped, operate}

-- the values of a longer list begin with those of the shorter one
pub values_append : (x : TermReading) (vs : List TermValue) (ns ms : List TermNode) → values_from x vs (ns ++ ms) ≡ values_from x (values_from x vs ns) ms
unfolding values_from
values_append x vs [] ms = refl
values_append x vs (n ∷ ns) ms = values_append x (vs ++ node_value x vs n ∷ []) ns ms

pub longer : {A : Type 0} → (vs : List A) (v : A) → length (vs ++ v ∷ []) ≡ length vs + 1
longer vs v = length-append vs (v ∷ [])

pub length_values : (x : TermReading) (vs : List TermValue) (ns : List TermNode) → length (values_from x vs ns) ≡ length vs + length ns
unfolding values_from
length_values x vs [] = omega arith
length_values x vs (n ∷ ns) = omega (arith, length_values x (vs ++ node_value x vs n ∷ []) ns, longer vs (node_value x vs n))

pub values_keep : (x : TermReading) (vs : List TermValue) (ns : List TermNode) (t : ℕ) → t < length vs → value_at (values_from x vs ns) t ≡ value_at vs t
unfolding values_from
values_keep x vs [] t h = refl
values_keep x vs (n ∷ ns) t h =
    let e = longer vs (node_value x vs n) in
    values_keep x (vs ++ node_value x vs n ∷ []) ns t (omega arith) ∙ get_or_append_left vs (node_value x vs n ∷ []) (word_value 0) t h

-- old terms keep their values
pub keeps : (x : TermReading) (old more : List TermNode) (t : ℕ) → t < length old → term_value x (old ++ more) t ≡ term_value x old t
keeps x old more t h =
    ap (λ vs. value_at vs t) (values_append x [] old more) ∙ values_keep x (values_from x [] old) more t (let e = length_values x [] old in omega arith)

-- and their nodes
pub keeps_node : (old more : List TermNode) (t : ℕ) → t < length old → node_at (old ++ more) t ≡ node_at old t
keeps_node old more t h = get_or_append_left old more (MemoryNode 0) t h

pub has_width_more : (ns ms : List TermNode) (w t : ℕ) → HasWidth ns w t → HasWidth (ns ++ ms) w t
has_width_more ns ms w t h = (omega (arith, h.0, length-append ns ms), ap width_of (keeps_node ns ms t h.0) ∙ h.1)

-- a node stays typed as nodes are added
pub typed_more : (ns ms : List TermNode) (n : TermNode) → IsTypedOver ns n → IsTypedOver (ns ++ ms) n
typed_more ns ms (RegisterNode p r) h = tt
typed_more ns ms (FlagNode p f) h = tt
typed_more ns ms (ChoiceNode i) h = tt
typed_more ns ms (BaseNode p j) h = tt
typed_more ns ms (MemoryNode p) h = tt
typed_more ns ms (ConstantNode w v) h = h
typed_more ns ms (BinaryNode o w a b) h = (h.0, has_width_more ns ms w a h.1, has_width_more ns ms w b h.2)
typed_more ns ms (NotNode w a) h = (h.0, has_width_more ns ms w a h.1)
typed_more ns ms (SelectNode w c a b) h = (h.0, has_width_more ns ms 1 c h.1, has_width_more ns ms w a h.2, has_width_more ns ms w b h.3)
typed_more ns ms (ExtractNode hi lo a) h =
    let z = has_width_more ns ms (width_of (node_at ns a)) a (h.2, refl) in
    (h.0, subst (λ (k : ℕ). hi < k) (sym z.1) h.1, z.0)
typed_more ns ms (ConcatNode high low a b) h = (h.0, h.1, h.2, has_width_more ns ms high a h.3, has_width_more ns ms low b h.4)
typed_more ns ms (ExtendNode s n m a) h = (h.0, h.1, h.2, has_width_more ns ms n a h.3)
typed_more ns ms (LoadNode n e m a) h = (h.0, has_width_more ns ms 0 m h.1, has_width_more ns ms 32 a h.2)
typed_more ns ms (StoreNode n e m a v) h = (h.0, has_width_more ns ms 0 m h.1, has_width_more ns ms 32 a h.2, has_width_more ns ms (8 * n) v h.3)
typed_more ns ms (JoinNode c a b) h = (has_width_more ns ms 1 c h.0, has_width_more ns ms 0 a h.1, has_width_more ns ms 0 b h.2)
typed_more ns ms (TakeNode n m a p) h = (h.0, has_width_more ns ms 0 m h.1, has_width_more ns ms 32 a h.2)

-- a list with one more node that is typed over it
typed_push_from : (before ns : List TermNode) (n : TermNode) → AreTypedFrom before ns → IsTypedOver (before ++ ns) n → AreTypedFrom before (ns ++ n ∷ [])
typed_push_from before [] n h t = (subst (λ (l : List TermNode). IsTypedOver l n) (append-nil before) t, tt)
typed_push_from before (m ∷ ns) n h t =
    (h.0, typed_push_from (before ++ m ∷ []) ns n h.1 (subst (λ (l : List TermNode). IsTypedOver l n) (sym (append_assoc before (m ∷ []) ns)) t))

pub typed_push : (ns : List TermNode) (n : TermNode) → AreTyped ns → IsTypedOver ns n → AreTyped (ns ++ n ∷ [])
typed_push ns n h t = typed_push_from [] ns n h t

-- the value of a node hangs on its operands alone
pub same : (x : TermReading) (vs ws : List TermValue) (ns : List TermNode) (n : TermNode) → IsTypedOver ns n →
    ((t : ℕ) → t < length ns → value_at vs t ≡ value_at ws t) →
    node_value x vs n ≡ node_value x ws n
same x vs ws ns (RegisterNode p r) h f = refl
same x vs ws ns (FlagNode p r) h f = refl
same x vs ws ns (ChoiceNode i) h f = refl
same x vs ws ns (BaseNode p j) h f = refl
same x vs ws ns (MemoryNode p) h f = refl
same x vs ws ns (ConstantNode w v) h f = refl
same x vs ws ns (BinaryNode o w a b) h f =
    ap (λ z. word_value (operate o w z.word (value_at vs b).word)) (f a h.1.0) ∙ ap (λ z. word_value (operate o w (value_at ws a).word z.word)) (f b h.2.0)
same x vs ws ns (NotNode w a) h f = ap (λ (z : TermValue). node_value x (z ∷ []) (NotNode w 0)) (f a h.1.0)
same x vs ws ns (SelectNode w c a b) h f =
    ap (λ (z : TermValue). node_value x (z ∷ value_at vs a ∷ value_at vs b ∷ []) (SelectNode w 0 1 2)) (f c h.1.0)
    ∙ ap (λ (z : TermValue). node_value x (value_at ws c ∷ z ∷ value_at vs b ∷ []) (SelectNode w 0 1 2)) (f a h.2.0)
    ∙ ap (λ (z : TermValue). node_value x (value_at ws c ∷ value_at ws a ∷ z ∷ []) (SelectNode w 0 1 2)) (f b h.3.0)
same x vs ws ns (ExtractNode hi lo a) h f = ap (λ (z : TermValue). node_value x (z ∷ []) (ExtractNode hi lo 0)) (f a h.2)
same x vs ws ns (ConcatNode high low a b) h f =
    ap (λ (z : TermValue). node_value x (z ∷ value_at vs b ∷ []) (ConcatNode high low 0 1)) (f a h.3.0)
    ∙ ap (λ (z : TermValue). node_value x (value_at ws a ∷ z ∷ []) (ConcatNode high low 0 1)) (f b h.4.0)
same x vs ws ns (ExtendNode s n m a) h f = ap (λ (z : TermValue). node_value x (z ∷ []) (ExtendNode s n m 0)) (f a h.3.0)
same x vs ws ns (LoadNode n e m a) h f =
    ap (λ (z : TermValue). node_value x (z ∷ value_at vs a ∷ []) (LoadNode n e 0 1)) (f m h.1.0)
    ∙ ap (λ (z : TermValue). node_value x (value_at ws m ∷ z ∷ []) (LoadNode n e 0 1)) (f a h.2.0)
same x vs ws ns (StoreNode n e m a v) h f =
    ap (λ (z : TermValue). node_value x (z ∷ value_at vs a ∷ value_at vs v ∷ []) (StoreNode n e 0 1 2)) (f m h.1.0)
    ∙ ap (λ (z : TermValue). node_value x (value_at ws m ∷ z ∷ value_at vs v ∷ []) (StoreNode n e 0 1 2)) (f a h.2.0)
    ∙ ap (λ (z : TermValue). node_value x (value_at ws m ∷ value_at ws a ∷ z ∷ []) (StoreNode n e 0 1 2)) (f v h.3.0)
same x vs ws ns (JoinNode c a b) h f =
    ap (λ (z : TermValue). node_value x (z ∷ value_at vs a ∷ value_at vs b ∷ []) (JoinNode 0 1 2)) (f c h.0.0)
    ∙ ap (λ (z : TermValue). node_value x (value_at ws c ∷ z ∷ value_at vs b ∷ []) (JoinNode 0 1 2)) (f a h.1.0)
    ∙ ap (λ (z : TermValue). node_value x (value_at ws c ∷ value_at ws a ∷ z ∷ []) (JoinNode 0 1 2)) (f b h.2.0)
same x vs ws ns (TakeNode n m a p) h f =
    ap (λ (z : TermValue). node_value x (z ∷ value_at vs a ∷ []) (TakeNode n 0 1 p)) (f m h.1.0)
    ∙ ap (λ (z : TermValue). node_value x (value_at ws m ∷ z ∷ []) (TakeNode n 0 1 p)) (f a h.2.0)

-- the last of a list
pub last : {A : Type 0} → (vs : List A) (v d : A) → get_or (vs ++ v ∷ []) (length vs) d ≡ v
last [] v d = refl
last (y ∷ vs) v d = last vs v d

unfolds_from : (x : TermReading) (before : List TermNode) (vs : List TermValue) (ns : List TermNode) (k : ℕ) → length vs ≡ length before →
    AreTypedFrom before ns → k < length ns →
    value_at (values_from x vs ns) (length vs + k) ≡ node_value x (values_from x vs ns) (node_at ns k)
unfolding values_from
unfolds_from x before vs [] k e h l = absurd (omega arith)
unfolds_from x before vs (n ∷ ns) zero e h l =
    let v = node_value x vs n in
    let z : length vs + 0 ≡ length vs = omega arith in
    let g = longer vs v in
    ap (value_at (values_from x (vs ++ v ∷ []) ns)) z
    ∙ values_keep x (vs ++ v ∷ []) ns (length vs) (omega arith)
    ∙ last vs v (word_value 0)
    ∙ same x vs (values_from x (vs ++ v ∷ []) ns) before n h.0
    (λ t q. sym (values_keep x (vs ++ v ∷ []) ns t (omega arith) ∙ get_or_append_left vs (v ∷ []) (word_value 0) t (omega arith)))
unfolds_from x before vs (n ∷ ns) (suc k) e h l =
    let v = node_value x vs n in
    let g = longer vs v in let i = longer before n in
    let z : length vs + suc k ≡ length (vs ++ v ∷ []) + k = omega arith in
    ap (value_at (values_from x (vs ++ v ∷ []) ns)) z
    ∙ unfolds_from x (before ++ n ∷ []) (vs ++ v ∷ []) ns k (omega arith) h.1 (omega arith)

-- a term's value is that of its node
pub unfolds : (x : TermReading) (ns : List TermNode) (t : ℕ) → AreTyped ns → t < length ns →
    term_value x ns t ≡ node_value x (values_from x [] ns) (node_at ns t)
unfolds x ns t h l = let z : 0 + t ≡ t = omega arith in ap (value_at (values_from x [] ns)) (sym z) ∙ unfolds_from x [] [] ns t refl h l

-- a term's value by its node
pub by_node : (x : TermReading) (ns : List TermNode) (t : ℕ) (n : TermNode) → AreTyped ns → t < length ns → n ≡ node_at ns t →
    term_value x ns t ≡ node_value x (values_from x [] ns) n
by_node x ns t n h l e = unfolds x ns t h l ∙ ap (node_value x (values_from x [] ns)) (sym e)

typed_before_from : (before ns : List TermNode) (k : ℕ) → AreTypedFrom before ns → k < length ns → IsTypedOver (before ++ take k ns) (node_at ns k)
typed_before_from before [] k h l = absurd (omega arith)
typed_before_from before (n ∷ ns) zero h l = subst (λ (b : List TermNode). IsTypedOver b n) (sym (append-nil before)) h.0
typed_before_from before (n ∷ ns) (suc k) h l =
    subst (λ (b : List TermNode). IsTypedOver b (node_at ns k)) (append_assoc before (n ∷ []) (take k ns)) (typed_before_from (before ++ n
    ∷ []) ns k h.1 (omega arith))

-- a node is typed over those before it
pub typed_before : (ns : List TermNode) (k : ℕ) (n : TermNode) → AreTyped ns → k < length ns → n ≡ node_at ns k → IsTypedOver (take k ns) n
typed_before ns k n h l e = subst (IsTypedOver (take k ns)) (sym e) (typed_before_from [] ns k h l)

typed_here_from : (before ns : List TermNode) (k : ℕ) → AreTypedFrom before ns → k < length ns → IsTypedOver (before ++ ns) (node_at ns k)
typed_here_from before [] k h l = absurd (omega arith)
typed_here_from before (n ∷ ns) zero h l = typed_more before (n ∷ ns) n h.0
typed_here_from before (n ∷ ns) (suc k) h l =
    subst (λ (b : List TermNode). IsTypedOver b (node_at ns k)) (append_assoc before (n ∷ []) ns) (typed_here_from (before ++ n ∷ []) ns k h.1 (omega arith))

-- and so over the whole list
pub typed_here : (ns : List TermNode) (k : ℕ) (n : TermNode) → AreTyped ns → k < length ns → n ≡ node_at ns k → IsTypedOver ns n
typed_here ns k n h l e = subst (IsTypedOver ns) (sym e) (typed_here_from [] ns k h l)

-- the width of a term by its node
pub width_by_node : (ns : List TermNode) (t w : ℕ) (n : TermNode) → HasWidth ns w t → n ≡ node_at ns t → width_of n ≡ w
width_by_node ns t w n h e = ap width_of e ∙ h.1

-- a place before another, where the node there is typed over those before it
pub place_before : (ns : List TermNode) (k w t : ℕ) → k < length ns → HasWidth (take k ns) w t → t < k
place_before ns k w t l h = omega (arith, h.0, length_take k ns)
  where
    length_take : (k : ℕ) (ns : List TermNode) → length (take k ns) ≤ k
    length_take zero ns = omega arith
    length_take (suc k) [] = omega arith
    length_take (suc k) (n ∷ ns) = let e = length_take k ns in omega arith
