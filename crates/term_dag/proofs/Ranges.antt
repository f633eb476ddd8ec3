-- Each value fits its width.
use Rattle.std.proofs.Common.{◌≡◌, ℕ, zero, suc, ◌+◌, ◌-◌, ◌*◌, ◌/◌, ◌%◌, ◌^◌, ◌<◌, ◌≤◌, List, [], ◌∷◌, ◌++◌, length, refl, ap, sym, ◌∙◌, subst, arith, append_assoc, append-nil, inl, inr, true, false}
use Rattle.std.specs.Prelude.{Bool, if◌then◌else◌}
use Rattle.std.proofs.lemmas.Bool.{cases_lt}
use Rattle.std.proofs.lemmas.List.{get_or_append_left}
use Rattle.std.proofs.lemmas.Nat.{mod_below, pow_pos, pow-add, mul-add-lt}
use Rattle.std.proofs.Math.Nat.{mul_comm, pow-le-pow_right}
use Rattle.word_spec.specs.Words as words
use Rattle.word_spec.specs.Memory.{load}
use Rattle.machine_spec.specs.Bil.{Bits, BinaryOp, Plus, Minus, Times, Divide, SignedDivide, Modulo, SignedModulo, And, Or, Xor, ShiftLeft, ShiftRight, ShiftSigned, Equal, NotEqual, Less, LessEqual, SignedLess, SignedLessEqual}
use Rattle.machine_spec.specs.BilTyping.{result_width}
use Rattle.machine_spec.specs.BilMeaning.{Value, Word, Bytes, Stuck, IsOfType, on_words}
use Rattle.machine_spec.proofs.WordBounds.{op_below, complement_below, sign_extend_below, load_below, stored_below}
use Rattle.term_spec.specs.Terms.{TermReading, InRange, TermValue, TermNode, RegisterNode, FlagNode, ChoiceNode, BaseNode, MemoryNode, ConstantNode, BinaryNode, NotNode, SelectNode, ExtractNode, ConcatNode, ExtendNode, LoadNode, StoreNode, JoinNode, TakeNode, word_value, bytes_value, value_at, node_value, values_from, term_value, term_word, width_of, node_at, HasWidth, IsTypedOver, AreTypedFrom, AreTyped, operate, select, extend, is_taken_at, word_part}
use Rattle.term_dag.proofs.ListLaws.{longer, last, unfolds, typed_here}

-- a value fits a width
pub record IsFit (w : ℕ) (v : TermValue) : Type 0 where
  pub word : v.word < 2 ^ w
  pub bytes : (a : ℕ) → v.bytes a < 256

one : (w n : ℕ) → n < 2 ^ w → IsFit w (word_value n)
one w n h = record { word = h; bytes = λ a. omega arith }

selected : (c a b n : ℕ) → a < n → b < n → select c a b < n
selected zero a b n h k = k
selected (suc c) a b n h k = h

either : (c : Bool) (a b n : ℕ) → a < n → b < n → (if c then a else b) < n
either true a b n h k = h
either false a b n h k = k

word_below : (n : ℕ) (v : Value) → IsOfType (Bits n) v → word_part v < 2 ^ n
word_below n (Word m a) (e, h) = h
word_below n (Bytes m) h = absurd h
word_below n Stuck h = absurd h

-- what an operator gives fits its width
pub operate_below : (o : BinaryOp) (w a b : ℕ) → a < 2 ^ w → b < 2 ^ w → operate o w a b < 2 ^ result_width o w
operate_below o w a b h k = word_below (result_width o w) (on_words o w a b) (op_below o w a b h k)

pub concat_below : (high low a b : ℕ) → a < 2 ^ high → b < 2 ^ low → words.concat low a b < 2 ^ (high + low)
concat_below high low a b h k = rw (pow-add, mul_comm (2 ^ high) (2 ^ low)) (mul-add-lt a (2 ^ low) b (2 ^ high) h k)

pub extend_below : (s : _) (n m a : ℕ) → a < 2 ^ n → n ≤ m → extend s n m a < 2 ^ m
extend_below true n m a h l = sign_extend_below n m a h l
extend_below false n m a h l = let p : 2 ^ n ≤ 2 ^ m = pow-le-pow_right (omega arith) l in omega arith

load_fits : (e : _) (n a : ℕ) (m : ℕ → ℕ) → ((i : ℕ) → m i < 256) → load e n m a < 2 ^ (8 * n)
load_fits e n a m h =
    let z : 8 * n / 8 ≡ n = omega arith in
    let y : 8 * n % 8 ≡ 0 = omega arith in
    subst (λ (k : ℕ). load e k m a < 2 ^ (8 * n)) z (load_below e (8 * n) m a y h)

-- each of the values fits the width of its node
abbrev AreFit : List TermNode → List TermValue → Type 0
AreFit ns vs = (t : ℕ) → t < length ns → IsFit (width_of (node_at ns t)) (value_at vs t)

fit_at : (ns : List TermNode) (vs : List TermValue) (w t : ℕ) → AreFit ns vs → HasWidth ns w t → IsFit w (value_at vs t)
fit_at ns vs w t f h = subst (λ (k : ℕ). IsFit k (value_at vs t)) h.1 (f t h.0)

fits : (x : TermReading) (vs : List TermValue) (ns : List TermNode) (n : TermNode) → InRange x → AreFit ns vs → IsTypedOver ns n →
    IsFit (width_of n) (node_value x vs n)
fits x vs ns (RegisterNode p r) g f h = one 32 _ (g.regs p r)
fits x vs ns (FlagNode p r) g f h = one 1 _ (g.flags p r)
fits x vs ns (ChoiceNode i) g f h = one 2 _ (g.choice i)
fits x vs ns (BaseNode p j) g f h = one 8 _ (g.base p j)
fits x vs ns (MemoryNode p) g f h = record { word = omega arith; bytes = g.mem p }
fits x vs ns (ConstantNode w v) g f h = one w v h.1
fits x vs ns (BinaryNode o w a b) g f h = one _ _ (operate_below o w _ _ (fit_at ns vs w a f h.1).word (fit_at ns vs w b f h.2).word)
fits x vs ns (NotNode w a) g f h = one w _ (complement_below w _)
fits x vs ns (SelectNode w c a b) g f h = one w _ (selected _ _ _ _ (fit_at ns vs w a f h.2).word (fit_at ns vs w b f h.3).word)
fits x vs ns (ExtractNode hi lo a) g f h = one _ _ (mod_below _ (2 ^ (hi + 1 - lo)) (pow_pos (hi + 1 - lo)))
fits x vs ns (ConcatNode high low a b) g f h = one _ _ (concat_below high low _ _ (fit_at ns vs high a f h.3).word (fit_at ns vs low b f h.4).word)
fits x vs ns (ExtendNode s n m a) g f h = one m _ (extend_below s n m _ (fit_at ns vs n a f h.3).word h.1)
fits x vs ns (LoadNode n e m a) g f h = one _ _ (load_fits e n _ _ (fit_at ns vs 0 m f h.1).bytes)
fits x vs ns (StoreNode n e m a v) g f h = record {
  word = omega arith;
  bytes = λ i. stored_below e n (value_at vs m).bytes (value_at vs a).word (value_at vs v).word i ((fit_at ns vs 0 m f h.1).bytes i);
}
fits x vs ns (JoinNode c a b) g f h = record {
  word = omega arith;
  bytes = λ i. selected _ _ _ _ ((fit_at ns vs 0 a f h.1).bytes i) ((fit_at ns vs 0 b f h.2).bytes i);
}
fits x vs ns (TakeNode n m a p) g f h = record {
  word = omega arith;
  bytes = λ i. either (is_taken_at n (value_at vs a).word i) _ _ _ (g.mem p i) ((fit_at ns vs 0 m f h.1).bytes i);
}

fit_push : (ns : List TermNode) (vs : List TermValue) (n : TermNode) (v : TermValue) → length vs ≡ length ns → AreFit ns vs → IsFit (width_of n) v →
    AreFit (ns ++ n ∷ []) (vs ++ v ∷ [])
fit_push ns vs n v e f h t l =
    let g = longer ns n in
    elim (cases_lt t (length ns)) [
      | inl k ↦
          subst (λ (m : TermNode). IsFit (width_of m) (value_at (vs ++ v ∷ []) t)) (sym (get_or_append_left ns (n ∷ []) (MemoryNode 0) t k))
          (subst (IsFit (width_of (node_at ns t))) (sym (get_or_append_left vs (v ∷ []) (word_value 0) t (omega arith))) (f t k))
      | inr k ↦ (
          let i : t ≡ length ns = omega arith in
          let j : t ≡ length vs = omega arith in
          subst (λ (m : TermNode). IsFit (width_of m) (value_at (vs ++ v ∷ []) t)) (sym (ap (node_at (ns ++ n ∷ [])) i ∙ last ns n (MemoryNode 0)))
          (subst (IsFit (width_of n)) (sym (ap (value_at (vs ++ v ∷ [])) j ∙ last vs v (word_value 0))) h))
    ]

all_fit : (x : TermReading) (before ns : List TermNode) (vs : List TermValue) → InRange x → length vs ≡ length before → AreFit before vs →
    AreTypedFrom before ns →
    AreFit (before ++ ns) (values_from x vs ns)
unfolding values_from
all_fit x before [] vs g e f h = subst (λ (l : List TermNode). AreFit l vs) (sym (append-nil before)) f
all_fit x before (n ∷ ns) vs g e f h =
    let v = node_value x vs n in
    let i = longer before n in let j = longer vs v in
    subst (λ (l : List TermNode). AreFit l (values_from x (vs ++ v ∷ []) ns)) (append_assoc before (n ∷ []) ns)
    (all_fit x (before ++ n ∷ []) ns (vs ++ v ∷ []) g (omega arith) (fit_push before vs n v e f (fits x vs before n g f h.0)) h.1)

-- each term's value fits its width
pub term_fits : (x : TermReading) (ns : List TermNode) (w t : ℕ) → InRange x → AreTyped ns → HasWidth ns w t → IsFit w (term_value x ns t)
term_fits x ns w t g h p = fit_at ns (values_from x [] ns) w t (all_fit x [] ns [] g refl (λ t l. absurd (omega arith)) h) p

pub word_fits : (x : TermReading) (ns : List TermNode) (w t : ℕ) → InRange x → AreTyped ns → HasWidth ns w t → term_word x ns t < 2 ^ w
word_fits x ns w t g h p = (term_fits x ns w t g h p).word

result_some : (o : BinaryOp) (w : ℕ) → 1 ≤ w → 1 ≤ result_width o w
result_some Plus w h = h
result_some Minus w h = h
result_some Times w h = h
result_some Divide w h = h
result_some SignedDivide w h = h
result_some Modulo w h = h
result_some SignedModulo w h = h
result_some And w h = h
result_some Or w h = h
result_some Xor w h = h
result_some ShiftLeft w h = h
result_some ShiftRight w h = h
result_some ShiftSigned w h = h
result_some Equal w h = omega arith
result_some NotEqual w h = omega arith
result_some Less w h = omega arith
result_some LessEqual w h = omega arith
result_some SignedLess w h = omega arith
result_some SignedLessEqual w h = omega arith

pub result_few : (o : BinaryOp) (w : ℕ) → 1 ≤ w → w ≤ 64 → result_width o w ≤ 64
result_few Plus w h k = k
result_few Minus w h k = k
result_few Times w h k = k
result_few Divide w h k = k
result_few SignedDivide w h k = k
result_few Modulo w h k = k
result_few SignedModulo w h k = k
result_few And w h k = k
result_few Or w h k = k
result_few Xor w h k = k
result_few ShiftLeft w h k = k
result_few ShiftRight w h k = k
result_few ShiftSigned w h k = k
result_few Equal w h k = omega arith
result_few NotEqual w h k = omega arith
result_few Less w h k = omega arith
result_few LessEqual w h k = omega arith
result_few SignedLess w h k = omega arith
result_few SignedLessEqual w h k = omega arith

-- the width of an operator's result
pub result_is_width : (o : BinaryOp) (w : ℕ) → 1 ≤ w → w ≤ 64 → (1 ≤ result_width o w) × (result_width o w ≤ 64)
result_is_width o w h k = (result_some o w h, result_few o w h k)

word_node : (x : TermReading) (vs : List TermValue) (n : TermNode) → 1 ≤ width_of n → node_value x vs n ≡ word_value (node_value x vs n).word
word_node x vs (RegisterNode p r) h = refl
word_node x vs (FlagNode p f) h = refl
word_node x vs (ChoiceNode i) h = refl
word_node x vs (BaseNode p j) h = refl
word_node x vs (MemoryNode p) h = absurd (omega arith)
word_node x vs (ConstantNode w v) h = refl
word_node x vs (BinaryNode o w a b) h = refl
word_node x vs (NotNode w a) h = refl
word_node x vs (SelectNode w c a b) h = refl
word_node x vs (ExtractNode hi lo a) h = refl
word_node x vs (ConcatNode high low a b) h = refl
word_node x vs (ExtendNode s n m a) h = refl
word_node x vs (LoadNode n e m a) h = refl
word_node x vs (StoreNode n e m a v) h = absurd (omega arith)
word_node x vs (JoinNode c a b) h = absurd (omega arith)
word_node x vs (TakeNode n m a p) h = absurd (omega arith)

-- a term with a width is a word
pub word_only : (x : TermReading) (ns : List TermNode) (w t : ℕ) → AreTyped ns → 1 ≤ w → HasWidth ns w t → term_value x ns t ≡ word_value (term_word x ns t)
word_only x ns w t h s p =
    let u = unfolds x ns t h p.0 in
    u ∙ word_node x (values_from x [] ns) (node_at ns t) (omega (arith, p.1)) ∙ ap (λ z. word_value z.word) (sym u)

memory_node : (x : TermReading) (vs : List TermValue) (ns : List TermNode) (n : TermNode) → IsTypedOver ns n → width_of n ≡ 0 →
    node_value x vs n ≡ bytes_value (node_value x vs n).bytes
memory_node x vs ns (RegisterNode p r) h e = absurd (omega arith)
memory_node x vs ns (FlagNode p f) h e = absurd (omega arith)
memory_node x vs ns (ChoiceNode i) h e = absurd (omega arith)
memory_node x vs ns (BaseNode p j) h e = absurd (omega arith)
memory_node x vs ns (MemoryNode p) h e = refl
memory_node x vs ns (ConstantNode w v) h e = absurd (omega (arith, h.0.0))
memory_node x vs ns (BinaryNode o w a b) h e = absurd (omega (arith, result_some o w h.0.0))
memory_node x vs ns (NotNode w a) h e = absurd (omega (arith, h.0.0))
memory_node x vs ns (SelectNode w c a b) h e = absurd (omega (arith, h.0.0))
memory_node x vs ns (ExtractNode hi lo a) h e = absurd (omega (arith, h.0))
memory_node x vs ns (ConcatNode high low a b) h e = absurd (omega (arith, h.0.0))
memory_node x vs ns (ExtendNode s n m a) h e = absurd (omega (arith, h.0.0, h.1))
memory_node x vs ns (LoadNode n k m a) h e = absurd (omega (arith, h.0.0))
memory_node x vs ns (StoreNode n k m a v) h e = refl
memory_node x vs ns (JoinNode c a b) h e = refl
memory_node x vs ns (TakeNode n m a p) h e = refl

-- a term without a width is a memory
pub memory_only : (x : TermReading) (ns : List TermNode) (t : ℕ) → AreTyped ns → HasWidth ns 0 t → term_value x ns t ≡ bytes_value (term_value x ns t).bytes
memory_only x ns t h p =
    let u = unfolds x ns t h p.0 in
    u ∙ memory_node x (values_from x [] ns) ns (node_at ns t) (typed_here ns t (node_at ns t) h p.0 refl) p.1 ∙ ap (λ z. bytes_value z.bytes) (sym u)
