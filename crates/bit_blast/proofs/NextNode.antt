-- One more node.
use Rattle.std.proofs.Common.{◌≡◌, ℕ, zero, suc, ◌+◌, ◌*◌, ◌<◌, ◌≤◌, Bool, true, false, cond, List, [], ◌∷◌, ◌++◌, length, get_or, take, refl, ap, sym, ◌∙◌, subst, arith, inl, inr}
use Rattle.std.specs.Prelude.{slice_index, Contains}
use Rattle.std.specs.Global.{Vec}
use Rattle.std.proofs.lemmas.Bool.{cases_lt}
use Rattle.std.proofs.lemmas.List.{get_or_append_left, length-map, map-append, take_more, take_all, length_push}
use Rattle.std.proofs.lemmas.List.Sums.{sum_by-append, sum_by-cons}
use Rattle.term_spec.specs.Terms.{TermReading, TermValue, TermNode, RegisterNode, FlagNode, ChoiceNode, BaseNode, MemoryNode, ConstantNode, BinaryNode, NotNode, SelectNode, ExtractNode, ConcatNode, ExtendNode, LoadNode, StoreNode, JoinNode, TakeNode, word_value, value_at, node_at, node_value, values_from, term_value, width_of, own_gates, term_gates, select, extend, operate, HasWidth, IsTypedOver, AreTyped}
use Rattle.term_spec.specs.Cells.{IsOfWords}
use Rattle.word_spec.specs.Words as words
use Rattle.word_spec.specs.Words.{bit}
use Rattle.gates.specs.declared.bit.Bit.{Bit}
use Rattle.gates.specs.Circuits.{Netlist, next, Holds, Within, bit_value}
use Rattle.gates.proofs.Netlists.{grows_none, grows_then}
use Rattle.word_gates.specs.Numbers.{number, IsWord}
use Rattle.word_gates.proofs.Words.{no_bit}
use Rattle.term_dag.specs.Readings.{AreWords}
use Rattle.term_dag.proofs.ListLaws.{keeps, values_append, length_values, longer, last, typed_before}
use Rattle.bit_blast.specs.declared.input_places.InputPlaces.{InputPlaces}
use Rattle.bit_blast.specs.Places.{IsReadingAt, seen}
use Rattle.bit_blast.specs.BitWords.{AreBlasted, numbers, values_of, shapes}
use Rattle.bit_blast.proofs.Lists.{word_is, within_then}

-- ---- nodes over shapes

-- nodes that have the widths of those of a list
record Alike (ms ns : List TermNode) : Type 0 where
  count : length ms ≡ length ns
  widths : (t : ℕ) → t < length ns → width_of (node_at ms t) ≡ width_of (node_at ns t)

has_width : (ms ns : List TermNode) → Alike ms ns → (w t : ℕ) → HasWidth ns w t → HasWidth ms w t
has_width ms ns a w t h = (omega (arith, a.count, h.0), a.widths t h.0 ∙ h.1)

typed_alike : (ms ns : List TermNode) → Alike ms ns → (n : TermNode) → IsTypedOver ns n → IsTypedOver ms n
typed_alike ms ns a (RegisterNode p r) h = tt
typed_alike ms ns a (FlagNode p f) h = tt
typed_alike ms ns a (ChoiceNode i) h = tt
typed_alike ms ns a (BaseNode p j) h = tt
typed_alike ms ns a (MemoryNode p) h = tt
typed_alike ms ns a (ConstantNode w v) h = h
typed_alike ms ns a (BinaryNode o w x y) h = (h.0, has_width ms ns a w x h.1, has_width ms ns a w y h.2)
typed_alike ms ns a (NotNode w x) h = (h.0, has_width ms ns a w x h.1)
typed_alike ms ns a (SelectNode w c x y) h = (h.0, has_width ms ns a 1 c h.1, has_width ms ns a w x h.2, has_width ms ns a w y h.3)
typed_alike ms ns a (ExtractNode hi lo x) h = (h.0, subst (λ (k : ℕ). hi < k) (sym (a.widths x h.2)) h.1, omega (arith, a.count, h.2))
typed_alike ms ns a (ConcatNode high low x y) h = (h.0, h.1, h.2, has_width ms ns a high x h.3, has_width ms ns a low y h.4)
typed_alike ms ns a (ExtendNode s n m x) h = (h.0, h.1, h.2, has_width ms ns a n x h.3)
typed_alike ms ns a (LoadNode n e m x) h = (h.0, has_width ms ns a 0 m h.1, has_width ms ns a 32 x h.2)
typed_alike ms ns a (StoreNode n e m x v) h = (h.0, has_width ms ns a 0 m h.1, has_width ms ns a 32 x h.2, has_width ms ns a (8 * n) v h.3)
typed_alike ms ns a (JoinNode c x y) h = (has_width ms ns a 1 c h.0, has_width ms ns a 0 x h.1, has_width ms ns a 0 y h.2)
typed_alike ms ns a (TakeNode n m x p) h = (h.0, has_width ms ns a 0 m h.1, has_width ms ns a 32 x h.2)

-- the word of a node over words hangs on the words of its operands alone
same_word : (x : TermReading) (us vs : List TermValue) (ns : List TermNode) (n : TermNode) → IsTypedOver ns n → IsOfWords n →
    ((t : ℕ) → t < length ns → (value_at us t).word ≡ (value_at vs t).word) → (node_value x us n).word ≡ (node_value x vs n).word
same_word x us vs ns (RegisterNode p r) h k f = refl
same_word x us vs ns (FlagNode p r) h k f = refl
same_word x us vs ns (ChoiceNode i) h k f = refl
same_word x us vs ns (BaseNode p j) h k f = refl
same_word x us vs ns (MemoryNode p) h k f = absurd k
same_word x us vs ns (ConstantNode w v) h k f = refl
same_word x us vs ns (BinaryNode o w a b) h k f =
    ap (λ z. operate o w z (value_at us b).word) (f a h.1.0) ∙ ap (λ z. operate o w (value_at vs a).word z) (f b h.2.0)
same_word x us vs ns (NotNode w a) h k f = ap (λ z. words.complement w z) (f a h.1.0)
same_word x us vs ns (SelectNode w c a b) h k f =
    ap (λ z. select z (value_at us a).word (value_at us b).word) (f c h.1.0)
    ∙ ap (λ z. select (value_at vs c).word z (value_at us b).word) (f a h.2.0)
    ∙ ap (λ z. select (value_at vs c).word (value_at vs a).word z) (f b h.3.0)
same_word x us vs ns (ExtractNode hi lo a) h k f = ap (λ z. words.bits hi lo z) (f a h.2)
same_word x us vs ns (ConcatNode high low a b) h k f =
    ap (λ z. words.concat low z (value_at us b).word) (f a h.3.0) ∙ ap (λ z. words.concat low (value_at vs a).word z) (f b h.4.0)
same_word x us vs ns (ExtendNode s n m a) h k f = ap (λ z. extend s n m z) (f a h.3.0)
same_word x us vs ns (LoadNode n e m a) h k f = absurd k
same_word x us vs ns (StoreNode n e m a v) h k f = absurd k
same_word x us vs ns (JoinNode c a b) h k f = absurd k
same_word x us vs ns (TakeNode n m a p) h k f = absurd k

-- ---- one more node

-- the word of one more node
pushed : (x : TermReading) (ns : List TermNode) (n : TermNode) (ws : List ℕ) (w : ℕ) → AreWords x ns ws → w ≡ (node_value x (values_from x [] ns) n).word →
    AreWords x (ns ++ n ∷ []) (ws ++ w ∷ [])
unfolding values_from
pushed x ns n ws w a e = record {
  count = omega (arith, a.count, longer ws w, longer ns n);
  each = λ t l. elim (cases_lt t (length ns)) [
    | inl k ↦ get_or_append_left ws (w ∷ []) 0 t (omega (arith, a.count)) ∙ a.each t k ∙ ap (λ z. z.word) (sym (keeps x ns (n ∷ []) t k))
    | inr k ↦ (
        let v = node_value x (values_from x [] ns) n in
        let i : t ≡ length ws = omega (arith, longer ns n, a.count) in
        let j : t ≡ length (values_from x [] ns) = omega (arith, longer ns n, length_values x [] ns) in
        ap (slice_index (ws ++ w ∷ [])) i ∙ last ws w 0 ∙ e
        ∙ sym (
        ap (λ z. (term_value x (ns ++ n ∷ []) z).word) j ∙ ap (λ z. (value_at z (length (values_from x [] ns))).word) (values_append x [] ns (n ∷ []))
        ∙ ap (λ z. z.word) (last (values_from x [] ns) v (word_value 0))))
  ];
}

gates_push : (ns : List TermNode) (n : TermNode) → term_gates (ns ++ n ∷ []) ≡ term_gates ns + own_gates n
gates_push ns n = grind (arith, sum_by-append own_gates ns (n ∷ []), sum_by-cons own_gates n [])

-- the widths of one more word
widths_push : (ws : List (Vec Bit)) (ns : List TermNode) (w : Vec Bit) (n : TermNode) → length ws ≡ length ns →
    ((t : ℕ) → t < length ns → width_of (node_at (shapes ws) t) ≡ width_of (node_at ns t)) →
    length w.items ≡ width_of n → (t : ℕ) → t < length (ns ++ n ∷ []) → width_of (node_at (shapes (ws ++ w ∷ [])) t) ≡ width_of (node_at (ns ++ n ∷ []) t)
widths_push [] [] w n c h e zero l = e
widths_push [] [] w n c h e (suc t) l = absurd (omega arith)
widths_push [] (m ∷ ns) w n c h e t l = absurd (omega arith)
widths_push (u ∷ ws) [] w n c h e t l = absurd (omega arith)
widths_push (u ∷ ws) (m ∷ ns) w n c h e zero l = h 0 (omega arith)
widths_push (u ∷ ws) (m ∷ ns) w n c h e (suc t) l = widths_push ws ns w n (omega arith) (λ i k. h (suc i) (omega arith)) e t (omega arith)

alike : (p : InputPlaces) (bits : List Bit) (a b : Netlist) (ns : List TermNode) (ws : List (Vec Bit)) → AreBlasted p bits a b ns ws → Alike (shapes ws) ns
alike p bits a b ns ws h = record { count = length-map ws (λ (w : Vec Bit). ConstantNode (length w.items) 0) ∙ h.count; widths = h.widths }

-- a node is typed over the words of those before it
pub typed_next : (p : InputPlaces) (bits : List Bit) (a b : Netlist) (ns : List TermNode) (i : ℕ) (n : TermNode) (ws : List (Vec Bit)) → AreTyped ns → i < length ns →
    n ≡ node_at ns i → AreBlasted p bits a b (take i ns) ws →
    IsTypedOver (shapes ws) n
typed_next p bits a b ns i n ws t l e h = typed_alike (shapes ws) (take i ns) (alike p bits a b (take i ns) ws h) n (typed_before ns i n t l e)

blasted_push : (p : InputPlaces) (bits : List Bit) (a b c : Netlist) (ns : List TermNode) (n : TermNode) (ws : List (Vec Bit)) (w : Vec Bit) → IsTypedOver ns n → IsOfWords n →
    AreBlasted p bits a b ns ws →
    IsWord b c (own_gates n) (width_of n) w.items →
    ((v : ℕ → Bool) (x : TermReading) → Holds v c → IsReadingAt p (seen bits v) x → number v w.items ≡ (node_value x (values_of v ws) n).word) →
    AreBlasted p bits a c (ns ++ n ∷ []) (ws ++ w ∷ [])
blasted_push p bits a b c ns n ws w t o h m f = record {
  grows = grows_then _ h.grows m.grows (omega (arith, gates_push ns n));
  within = within_then (next b) (next c) ws w h.within m.grows.more m.within;
  count = omega (arith, length_push ws w, length_push ns n, h.count);
  widths = widths_push ws ns w n h.count h.widths m.len;
  values = λ v x g r.
      let q = h.values v x (m.grows.keeps v g) r in
      subst (AreWords x (ns ++ n ∷ [])) (sym (map-append (λ (z : Vec Bit). number v z.items) ws (w ∷ [])))
      (pushed x ns n (numbers v ws) (number v w.items) q (f v x g r ∙ same_word x (values_of v ws) (values_from x [] ns) ns n t o
      (λ i l. word_is v ws i ∙ q.each i l)));
}

pub blasted_more : (p : InputPlaces) (bits : List Bit) (a b c : Netlist) (ns : List TermNode) (i : ℕ) (n : TermNode) (ws : List (Vec Bit)) (w : Vec Bit) → AreTyped ns →
    i < length ns → n ≡ node_at ns i → IsOfWords n →
    AreBlasted p bits a b (take i ns) ws → IsWord b c (own_gates n) (width_of n) w.items →
    ((v : ℕ → Bool) (x : TermReading) → Holds v c → IsReadingAt p (seen bits v) x → number v w.items ≡ (node_value x (values_of v ws) n).word) →
    AreBlasted p bits a c (take (i + 1) ns) (ws ++ w ∷ [])
blasted_more p bits a b c ns i n ws w t l e o h m f =
    subst (λ (z : List TermNode). AreBlasted p bits a c z (ws ++ w ∷ [])) (ap (λ z. take i ns ++ z ∷ []) e ∙ sym (take_more ns i (MemoryNode 0) l))
    (blasted_push p bits a b c (take i ns) n ws w (typed_before ns i n t l e) o h m f)

-- the condition of one bit
pub one_bit : (v : ℕ → Bool) (bs : List Bit) (x y : ℕ) → length bs ≡ 1 → cond (bit_value v (get_or bs 0 no_bit)) x y ≡ select (number v bs) x y
one_bit v [] x y l = absurd (omega arith)
one_bit v (c ∷ []) x y l = by (bit_value v c)
  where
    by : (t : Bool) → cond t x y ≡ select (bit t + 2 * 0) x y
    by true = refl
    by false = refl
one_bit v (c ∷ d ∷ bs) x y l = absurd (omega arith)

pub selected : (v : ℕ → Bool) (bs : List Bit) (b : Bit) (n x y m k : ℕ) → length bs ≡ 1 → b ≡ get_or bs 0 no_bit → number v bs ≡ n → x ≡ m → y ≡ k →
    cond (bit_value v b) x y ≡ select n m k
selected v bs b n x y m k l e f g h =
    ap (λ z. cond (bit_value v z) x y) e ∙ one_bit v bs x y l ∙ ap (λ z. select z x y) f ∙ ap (λ z. select n z y) g ∙ ap (λ z. select n m z) h

-- ---- the first and the last

pub node_in : (ns : List TermNode) (t : ℕ) (n : TermNode) → t < length ns → n ≡ node_at ns t → Contains ns n
node_in [] t n l e = absurd (omega arith)
node_in (m ∷ ns) zero n l e = (0, omega arith, sym e)
node_in (m ∷ ns) (suc t) n l e = let q = node_in ns t n (omega arith) e in (suc q.0, let k = q.1 in omega arith, q.2)

pub blasted_none : (p : InputPlaces) (bits : List Bit) (a : Netlist) (ns : List TermNode) (ws : List (Vec Bit)) → ws ≡ [] → AreBlasted p bits a a (take 0 ns) ws
blasted_none p bits a ns ws e = subst (AreBlasted p bits a a []) (sym e) (record {
  grows = grows_none a 0;
  within = record { each = λ k d l. absurd (omega arith) };
  count = refl;
  widths = λ t l. absurd (omega arith);
  values = λ v x g r. record { count = refl; each = λ t l. absurd (omega arith) };
})

pub blasted_all : (p : InputPlaces) (bits : List Bit) (a b : Netlist) (ns : List TermNode) (i : ℕ) (ws : List (Vec Bit)) → length ns ≤ i → AreBlasted p bits a b (take i ns) ws →
    AreBlasted p bits a b ns ws
blasted_all p bits a b ns i ws l h = subst (λ (z : List TermNode). AreBlasted p bits a b z ws) (take_all i ns l) h

-- a word that took no gates
pub no_gates : (a : Netlist) (w : ℕ) (bs : List Bit) → Within (next a) bs → length bs ≡ w → IsWord a a 0 w bs
no_gates a w bs h l = record { grows = grows_none a 0; within = h; len = l }
