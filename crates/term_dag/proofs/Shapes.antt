-- What a term is, by the shape of its node.
use Rattle.std.proofs.Common.{◌≡◌, ℕ, ◌+◌, ◌-◌, ◌^◌, ◌<◌, ◌≤◌, Bool, true, false, List, [], ◌∷◌, ◌++◌, length, refl, ap, sym, ◌∙◌, subst, arith, append_assoc, append-nil, inl, inr}
use Rattle.std.specs.Prelude.{if◌then◌else◌}
use Rattle.std.proofs.lemmas.Bool.{cases_lt}
use Rattle.std.proofs.lemmas.Nat.{pow_pos}
use Rattle.word_spec.specs.Words as words
use Rattle.word_spec.specs.Words.{bit}
use Rattle.machine_spec.specs.Bil.{BinaryOp, Plus}
use Rattle.machine_spec.specs.BilTyping.{result_width}
use Rattle.term_spec.specs.Terms.{TermReading, TermNode, RegisterNode, FlagNode, ChoiceNode, BaseNode, MemoryNode, ConstantNode, BinaryNode, NotNode, SelectNode, ExtractNode, ConcatNode, ExtendNode, LoadNode, StoreNode, JoinNode, TakeNode, word_value, bytes_value, term_value, term_word, width_of, node_at, HasWidth, IsTypedOver, AreTypedFrom, AreTyped, operate, select, extend}
use Rattle.term_dag.specs.declared.nodes.Term.{Term}
use Rattle.term_dag.specs.Folds.{IsConstant, IsNodeWord, IsSum, IsSlice, IsSide, IsLiteral, AreNeighbours}
use Rattle.term_dag.proofs.ListLaws.{by_node, typed_here, width_by_node, longer, last}
use Rattle.std.proofs.lemmas.List.{get_or_append_left}
use Rattle.term_dag.proofs.Ranges.{word_only, word_fits, memory_only, result_few}
use Rattle.term_dag.proofs.ShiftLaws.{sign_then_sign, zeros_then_sign}
use Rattle.term_dag.proofs.WordLaws.{add_zero, bits_of_bits, lower_bits, upper_bits, extended_bits, joined_bits}

-- words have at most 64 bits
abbrev AreSmall : List TermNode → Type 0
AreSmall ns = (t : ℕ) → t < length ns → width_of (node_at ns t) ≤ 64

small : (ns : List TermNode) (n : TermNode) → AreSmall ns → IsTypedOver ns n → width_of n ≤ 64
small ns (RegisterNode p r) f h = omega arith
small ns (FlagNode p r) f h = omega arith
small ns (ChoiceNode i) f h = omega arith
small ns (BaseNode p j) f h = omega arith
small ns (MemoryNode p) f h = omega arith
small ns (ConstantNode w v) f h = h.0.1
small ns (BinaryNode o w a b) f h = result_few o w h.0.0 h.0.1
small ns (NotNode w a) f h = h.0.1
small ns (SelectNode w c a b) f h = h.0.1
small ns (ExtractNode hi lo a) f h = omega (arith, f a h.2, h.1)
small ns (ConcatNode high low a b) f h = h.2
small ns (ExtendNode s n m a) f h = h.2
small ns (LoadNode n e m a) f h = omega (arith, h.0.1)
small ns (StoreNode n e m a v) f h = omega arith
small ns (JoinNode c a b) f h = omega arith
small ns (TakeNode n m a p) f h = omega arith

small_push : (ns : List TermNode) (n : TermNode) → AreSmall ns → width_of n ≤ 64 → AreSmall (ns ++ n ∷ [])
small_push ns n f h t l =
    elim (cases_lt t (length ns)) [
      | inl k ↦ subst (λ (m : TermNode). width_of m ≤ 64) (sym (get_or_append_left ns (n ∷ []) (MemoryNode 0) t k)) (f t k)
      | inr k ↦ (
          let i : t ≡ length ns = omega (arith, longer ns n) in
          subst (λ (m : TermNode). width_of m ≤ 64) (sym (ap (node_at (ns ++ n ∷ [])) i ∙ last ns n (MemoryNode 0))) h)
    ]

all_small : (before ns : List TermNode) → AreSmall before → AreTypedFrom before ns → AreSmall (before ++ ns)
all_small before [] f h = subst AreSmall (sym (append-nil before)) f
all_small before (n ∷ ns) f h = subst AreSmall (append_assoc before (n ∷ []) ns) (all_small (before ++ n
    ∷ []) ns (small_push before n f (small before n f h.0)) h.1)

pub few_bits : (ns : List TermNode) (t : ℕ) → AreTyped ns → t < length ns → width_of (node_at ns t) ≤ 64
few_bits ns t h l = all_small [] ns (λ i k. absurd (omega arith)) h t l

-- a node over words of its own width
pub binary_sides : (ns : List TermNode) (w t : ℕ) (o : BinaryOp) (v l r : ℕ) → AreTyped ns → HasWidth ns w t → BinaryNode o v l r ≡ node_at ns t →
    result_width o v ≡ v →
    HasWidth ns w l × HasWidth ns w r × ((x : TermReading) → term_word x ns t ≡ operate o w (term_word x ns l) (term_word x ns r))
binary_sides ns w t o v l r h p e f =
    let y = typed_here ns t (BinaryNode o v l r) h p.0 e in
    let i : v ≡ w = sym f ∙ width_by_node ns t w (BinaryNode o v l r) p e in (
      subst (λ (z : ℕ). HasWidth ns z l) i y.1,
      subst (λ (z : ℕ). HasWidth ns z r) i y.2,
      λ x. ap (λ z. z.word) (by_node x ns t (BinaryNode o v l r) h p.0 e) ∙ ap (λ z. operate o z (term_word x ns l) (term_word x ns r)) i,
    )

-- the negation of a word
pub not_side : (ns : List TermNode) (w t v u : ℕ) → AreTyped ns → HasWidth ns w t → NotNode v u ≡ node_at ns t →
    HasWidth ns w u × ((x : TermReading) → term_word x ns t ≡ words.complement w (term_word x ns u))
not_side ns w t v u h p e =
    let y = typed_here ns t (NotNode v u) h p.0 e in
    let i : v ≡ w = width_by_node ns t w (NotNode v u) p e in (
      subst (λ (z : ℕ). HasWidth ns z u) i y.1,
      λ x. ap (λ z. z.word) (by_node x ns t (NotNode v u) h p.0 e) ∙ ap (λ z. words.complement z (term_word x ns u)) i,
    )

-- a word with zeros above
pub extend_side : (ns : List TermNode) (t : ℕ) (s : Bool) (n m u : ℕ) → AreTyped ns → t < length ns → ExtendNode s n m u ≡ node_at ns t →
    HasWidth ns n u × ((x : TermReading) → term_word x ns t ≡ extend s n m (term_word x ns u))
extend_side ns t s n m u h p e =
    let y = typed_here ns t (ExtendNode s n m u) h p e in
    (y.3, λ x. ap (λ z. z.word) (by_node x ns t (ExtendNode s n m u) h p e))

-- a word is itself and nothing
pub own_sum : (ns : List TermNode) (w t : ℕ) → AreTyped ns → HasWidth ns w t → IsSum ns w t t 0
own_sum ns w t h p = record {
  place = p;
  below = pow_pos w;
  value = λ x i. sym (add_zero w (term_word x ns t) 0 (word_fits x ns w t i h p) refl);
}

-- a sum with a constant
pub sum_of : (ns : List TermNode) (w t v l r c : ℕ) → AreTyped ns → HasWidth ns w t → BinaryNode Plus v l r ≡ node_at ns t → IsConstant ns r c →
    IsSum ns w t l c
sum_of ns w t v l r c h p e k =
    let b = binary_sides ns w t Plus v l r h p e refl in
    record {
      place = b.0;
      below = subst (λ (z : ℕ). c < 2 ^ z) b.1.1 k.below;
      value = λ x i. b.2 x ∙ ap (words.add w (term_word x ns l)) (k.value x);
    }

-- the negation of a bit, as a literal
pub not_literal : (ns : List TermNode) (t v : ℕ) (u : Term) → AreTyped ns → HasWidth ns 1 t → NotNode v u.0 ≡ node_at ns t →
    IsLiteral ns t (record { term = u; negated = true })
not_literal ns t v u h p e =
    let y = not_side ns 1 t v u.0 h p e in
    record { place = y.0; value = λ x i. y.1 x }

-- the sides of a selection by the same condition
pub select_side : (ns : List TermNode) (w c t : ℕ) (holds : Bool) (v : ℕ) (k a b r : Term) → AreTyped ns → HasWidth ns w t →
    SelectNode v k.0 a.0 b.0 ≡ node_at ns t → k.0 ≡ c →
    r ≡ (if holds then a else b) → IsSide ns w c t holds r.0
select_side ns w c t holds v k a b r h p e f g =
    let y = typed_here ns t (SelectNode v k.0 a.0 b.0) h p.0 e in
    let i : v ≡ w = width_by_node ns t w (SelectNode v k.0 a.0 b.0) p e in
    let pa = subst (λ (z : ℕ). HasWidth ns z a.0) i y.2 in
    let pb = subst (λ (z : ℕ). HasWidth ns z b.0) i y.3 in
    let s : 1 ≤ w = omega (arith, y.0.0) in
    subst (λ (z : Term). IsSide ns w c t holds z.0) (sym g) (at pa pb s holds)
  where
    value : (x : TermReading) (n : ℕ) → term_word x ns c ≡ n → term_value x ns t ≡ word_value (select n (term_word x ns a.0) (term_word x ns b.0))
    value x n q = by_node x ns t (SelectNode v k.0 a.0 b.0) h p.0 e ∙ ap
        (λ z. word_value (select (term_word x ns z) (term_word x ns a.0) (term_word x ns b.0))) f ∙ ap
        (λ z. word_value (select z (term_word x ns a.0) (term_word x ns b.0))) q

    at : HasWidth ns w a.0 → HasWidth ns w b.0 → 1 ≤ w → (holds : Bool) → IsSide ns w c t holds (if holds then a else b).0
    at pa pb s true = record { place = pa; value = λ x i q. word_only x ns w a.0 h s pa ∙ sym (value x 1 q) }
    at pa pb s false = record { place = pb; value = λ x i q. word_only x ns w b.0 h s pb ∙ sym (value x 0 q) }

-- of a join
pub join_side : (ns : List TermNode) (w c t : ℕ) (holds : Bool) (k a b r : Term) → AreTyped ns → HasWidth ns w t → JoinNode k.0 a.0 b.0 ≡ node_at ns t →
    k.0 ≡ c →
    r ≡ (if holds then a else b) → IsSide ns w c t holds r.0
join_side ns w c t holds k a b r h p e f g =
    let y = typed_here ns t (JoinNode k.0 a.0 b.0) h p.0 e in
    let i : 0 ≡ w = width_by_node ns t w (JoinNode k.0 a.0 b.0) p e in
    subst (λ (z : Term). IsSide ns w c t holds z.0) (sym g) (subst (λ (z : ℕ). IsSide ns z c t holds (if holds then a else b).0) i (at y.1 y.2 holds))
  where
    value : (x : TermReading) (n : ℕ) → term_word x ns c ≡ n →
        term_value x ns t ≡ bytes_value (λ j. select n ((term_value x ns a.0).bytes j) ((term_value x ns b.0).bytes j))
    value x n q =
        by_node x ns t (JoinNode k.0 a.0 b.0) h p.0 e
        ∙ ap (λ z. bytes_value (λ j. select (term_word x ns z) ((term_value x ns a.0).bytes j) ((term_value x ns b.0).bytes j))) f
        ∙ ap (λ z. bytes_value (λ j. select z ((term_value x ns a.0).bytes j) ((term_value x ns b.0).bytes j))) q

    at : HasWidth ns 0 a.0 → HasWidth ns 0 b.0 → (holds : Bool) → IsSide ns 0 c t holds (if holds then a else b).0
    at pa pb true = record { place = pa; value = λ x i q. memory_only x ns a.0 h pa ∙ sym (value x 1 q) }
    at pa pb false = record { place = pb; value = λ x i q. memory_only x ns b.0 h pb ∙ sym (value x 0 q) }

-- the term that is given back
pub own_side : (ns : List TermNode) (w c t : ℕ) (holds : Bool) → HasWidth ns w t → IsSide ns w c t holds t
own_side ns w c t holds p = record { place = p; value = λ x i q. refl }

-- bits of bits
pub slice_of_extract : (ns : List TermNode) (hi lo t h l u : ℕ) → AreTyped ns → t < length ns → lo ≤ hi → hi < width_of (node_at ns t) →
    ExtractNode h l u ≡ node_at ns t →
    IsSlice ns hi lo t (hi + l) (lo + l) u
slice_of_extract ns hi lo t h l u y p q f e =
    let k = typed_here ns t (ExtractNode h l u) y p e in
    let g : hi < h + 1 - l = subst (λ (n : TermNode). hi < width_of n) (sym e) f in
    record {
      order = omega arith;
      width = omega arith;
      within = k.2;
      fits = omega (arith, k.1);
      value = λ x i. ap (λ v. words.bits hi lo v.word) (by_node x ns t (ExtractNode h l u) y p e) ∙ bits_of_bits hi lo h l (term_word x ns u) q (omega arith);
    }

-- bits of the lower side
pub slice_of_lower : (ns : List TermNode) (hi lo t high low a b : ℕ) → AreTyped ns → t < length ns → lo ≤ hi → hi < low →
    ConcatNode high low a b ≡ node_at ns t →
    IsSlice ns hi lo t hi lo b
slice_of_lower ns hi lo t high low a b y p q f e =
    let k = typed_here ns t (ConcatNode high low a b) y p e in
    record {
      order = q;
      width = refl;
      within = k.4.0;
      fits = omega (arith, k.4.1);
      value = λ x i. ap (λ v. words.bits hi lo v.word) (by_node x ns t (ConcatNode high low a b) y p e) ∙ lower_bits hi lo low (term_word x ns a)
          (term_word x ns b) q f;
    }

-- bits of the upper side
pub slice_of_upper : (ns : List TermNode) (hi lo t high low a b : ℕ) → AreTyped ns → t < length ns → lo ≤ hi → hi < width_of (node_at ns t) → low ≤ lo →
    ConcatNode high low a b ≡ node_at ns t →
    IsSlice ns hi lo t (hi - low) (lo - low) a
slice_of_upper ns hi lo t high low a b y p q f g e =
    let k = typed_here ns t (ConcatNode high low a b) y p e in
    let j : hi < high + low = subst (λ (n : TermNode). hi < width_of n) (sym e) f in
    record {
      order = omega arith;
      width = omega arith;
      within = k.3.0;
      fits = omega (arith, k.3.1);
      value = λ x i.
          ap (λ v. words.bits hi lo v.word) (by_node x ns t (ConcatNode high low a b) y p e)
          ∙ upper_bits hi lo low (term_word x ns a) (term_word x ns b) q g (word_fits x ns low b i y k.4);
    }

-- bits below an extension
pub slice_of_extend : (ns : List TermNode) (hi lo t : ℕ) (s : Bool) (n m u : ℕ) → AreTyped ns → t < length ns → lo ≤ hi → hi < n →
    ExtendNode s n m u ≡ node_at ns t →
    IsSlice ns hi lo t hi lo u
slice_of_extend ns hi lo t s n m u y p q f e =
    let k = typed_here ns t (ExtendNode s n m u) y p e in
    record {
      order = q;
      width = refl;
      within = k.3.0;
      fits = omega (arith, k.3.1);
      value = λ x i. ap (λ v. words.bits hi lo v.word) (by_node x ns t (ExtendNode s n m u) y p e) ∙ extended_bits s hi lo n m (term_word x ns u) q f k.1;
    }

pub own_slice : (ns : List TermNode) (hi lo t : ℕ) → t < length ns → lo ≤ hi → hi < width_of (node_at ns t) → IsSlice ns hi lo t hi lo t
own_slice ns hi lo t p q f = record { order = q; width = refl; within = p; fits = f; value = λ x i. refl }

pub slice_of_slice : (ns : List TermNode) (hi lo t h l u j k v : ℕ) → IsSlice ns hi lo t h l u → IsSlice ns h l u j k v → IsSlice ns hi lo t j k v
slice_of_slice ns hi lo t h l u j k v a b = record {
  order = b.order;
  width = b.width ∙ a.width;
  within = b.within;
  fits = b.fits;
  value =
      λ x i. a.value x i ∙ b.value x i;
}

pub neighbours_of : (ns : List TermNode) (a b hi middle t below lo u : ℕ) → AreTyped ns → a < length ns → b < length ns →
    ExtractNode hi middle t ≡ node_at ns a →
    ExtractNode below lo u ≡ node_at ns b → t ≡ u → middle ≡ below + 1 → AreNeighbours ns a b hi lo t
neighbours_of ns a b hi middle t below lo u y p q e f g h =
    let j = typed_here ns a (ExtractNode hi middle t) y p e in
    let k = typed_here ns b (ExtractNode below lo u) y q f in
    let wa : hi + 1 - middle ≡ width_of (node_at ns a) = ap width_of e in
    let wb : below + 1 - lo ≡ width_of (node_at ns b) = ap width_of f in
    record {
      order = omega (arith, j.0, k.0);
      within = j.2;
      fits = j.1;
      width = omega (arith, j.0, k.0);
      value = λ x i.
          joined_bits hi lo middle below (term_word x ns t) k.0 h j.0
          ∙ ap (λ z. words.concat z (words.bits hi middle (term_word x ns t)) (words.bits below lo (term_word x ns t))) wb
          ∙ ap (λ z. words.concat (width_of (node_at ns b)) z (words.bits below lo (term_word x ns t))) (sym (ap
          (λ z. z.word) (by_node x ns a (ExtractNode hi middle t) y p e)))
          ∙ ap (λ z. words.concat (width_of (node_at ns b)) (term_word x ns a) z)
          (ap (λ z. words.bits below lo (term_word x ns z)) g ∙ sym (ap (λ z. z.word) (by_node x ns b (ExtractNode below lo u) y q f)));
    }

-- bits of a word that a constant shifts
pub slice_of_shift : (ns : List TermNode) (o : BinaryOp) (hi lo t w l r k h j : ℕ) → AreTyped ns → t < length ns → BinaryNode o w l r ≡ node_at ns t →
    IsConstant ns r k → j ≤ h → h < w →
    h + 1 - j ≡ hi + 1 - lo → ((v : ℕ) → v < 2 ^ w → words.bits hi lo (operate o w v k) ≡ words.bits h j v) → IsSlice ns hi lo t h j l
slice_of_shift ns o hi lo t w l r k h j y p e c q f g v =
    let a = typed_here ns t (BinaryNode o w l r) y p e in
    record {
      order = q;
      width = g;
      within = a.1.0;
      fits = omega (arith, a.1.1);
      value = λ x i.
          ap (λ z. words.bits hi lo z.word) (by_node x ns t (BinaryNode o w l r) y p e) ∙ ap
          (λ z. words.bits hi lo (operate o w (term_word x ns l) z)) (c.value x)
          ∙ v (term_word x ns l) (word_fits x ns w l i y a.1);
    }

-- an extension of an extension, which has the value of one extension
further : (ns : List TermNode) (w n t : ℕ) (s b : Bool) (f m u : ℕ) → AreTyped ns → HasWidth ns n t → w ≤ 64 → n ≤ w → ExtendNode b f m u ≡ node_at ns t →
    ((v : ℕ) → v < 2 ^ f → 1 ≤ f → f ≤ n → extend b f w v ≡ extend s n w (extend b f n v)) →
    IsNodeWord ns w (λ x. extend s n w (term_word x ns t)) 0 (ExtendNode b f w u)
further ns w n t s b f m u h p few q e v =
    let y = typed_here ns t (ExtendNode b f m u) h p.0 e in
    let i : m ≡ n = width_by_node ns t n (ExtendNode b f m u) p e in
    record {
      typed = (y.0, omega (arith, y.1), few, y.3);
      width = refl;
      value = λ x r. ap word_value (
          v (term_word x ns u) (word_fits x ns f u r h y.3) y.0.0 (omega (arith, y.1))
          ∙ ap (λ z. extend s n w (extend b f z (term_word x ns u))) (sym i) ∙ ap (extend s n w) (sym (ap
          (λ z. z.word) (by_node x ns t (ExtendNode b f m u) h p.0 e))));
      gates = omega arith;
      loads = refl;
      stores = refl;
      joins = refl;
      derived = λ z. z;
    }

pub extended_zeros : (ns : List TermNode) (w n t : ℕ) (s b : Bool) (f m u : ℕ) → AreTyped ns → HasWidth ns n t → w ≤ 64 → n ≤ w →
    ExtendNode b f m u ≡ node_at ns t → s ≡ false → b ≡ false →
    IsNodeWord ns w (λ x. extend s n w (term_word x ns t)) 0 (ExtendNode b f w u)
extended_zeros ns w n t s b f m u h p few q e i j = further ns w n t s b f m u h p few q e (λ v l k r. rw (i, j) refl)

pub extended_signs : (ns : List TermNode) (w n t : ℕ) (s b : Bool) (f m u : ℕ) → AreTyped ns → HasWidth ns n t → w ≤ 64 → n ≤ w →
    ExtendNode b f m u ≡ node_at ns t → s ≡ true → b ≡ true →
    IsNodeWord ns w (λ x. extend s n w (term_word x ns t)) 0 (ExtendNode b f w u)
extended_signs ns w n t s b f m u h p few q e i j = further ns w n t s b f m u h p few q e (λ v l k r. rw (i, j) (sign_then_sign f n w v l k r q))

pub signed_zeros : (ns : List TermNode) (w n t : ℕ) (s b : Bool) (f m u : ℕ) → AreTyped ns → HasWidth ns n t → w ≤ 64 → n ≤ w →
    ExtendNode b f m u ≡ node_at ns t → s ≡ true → b ≡ false → f < n →
    IsNodeWord ns w (λ x. extend s n w (term_word x ns t)) 0 (ExtendNode b f w u)
signed_zeros ns w n t s b f m u h p few q e i j g = further ns w n t s b f m u h p few q e (λ v l k r. rw (i, j) (zeros_then_sign f n w v l g))
