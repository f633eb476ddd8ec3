-- The values of cells: words of the nodes' widths, which hang on the inputs that the nodes name alone.
use Rattle.std.proofs.Common.{◌≡◌, refl, ap, sym, ◌∙◌, subst, arith, ℕ, zero, suc, ◌+◌, ◌-◌, ◌*◌, ◌^◌, ◌<◌, ◌≤◌, [], ◌∷◌, List, true, false, length}
use Rattle.std.specs.Prelude.{◌++◌, Contains}
use Rattle.std.proofs.lemmas.Nat.{mod_below, pow_pos, pow-add, mul-add-lt}
use Rattle.std.proofs.Math.Nat.{mul_comm, pow-le-pow_right}
use Rattle.machine_spec.specs.Bil.{BinaryOp}
use Rattle.machine_spec.specs.BilTyping.{result_width}
use Rattle.machine_spec.specs.BilMeaning.{on_words}
use Rattle.machine_spec.proofs.BilSound.{word_of}
use Rattle.machine_spec.proofs.WordBounds.{op_below, complement_below, sign_extend_below}
use Rattle.term_spec.specs.Terms.{TermReading, InRange, TermValue, TermNode, RegisterNode, FlagNode, ChoiceNode, BaseNode, MemoryNode, ConstantNode, BinaryNode, NotNode, SelectNode, ExtractNode, ConcatNode, ExtendNode, LoadNode, StoreNode, JoinNode, TakeNode, word_part, operate, select, word_value, bytes_value, value_at, node_at, node_value, values_from, term_word, width_of, HasWidth, IsTypedOver, AreTypedFrom, AreTyped}
use Rattle.walk_spec.specs.Unrolled.{UnrolledProgram, is_register_of, is_flag_of}
use Rattle.term_spec.specs.WalkQuestions.{IsNamedBelow, DrawsAt}
use Rattle.term_spec.specs.Cells.{Cells, IsOfWords, AreFormed, read_address}

pub at_front : (vs ws : List TermValue) (t : ℕ) → t < length vs → value_at (vs ++ ws) t ≡ value_at vs t
at_front [] ws t l = absurd (omega arith)
at_front (v ∷ vs) ws zero l = refl
at_front (v ∷ vs) ws (suc t) l = at_front vs ws t (omega arith)

pub longer : (vs : List TermValue) (v : TermValue) → length (vs ++ v ∷ []) ≡ length vs + 1
longer [] v = refl
longer (w ∷ vs) v = let e = longer vs v in omega arith

-- values of earlier places stay
pub keeps : (x : TermReading) (ns : List TermNode) (vs : List TermValue) (t : ℕ) → t < length vs → value_at (values_from x vs ns) t ≡ value_at vs t
unfolding values_from
keeps x [] vs t l = refl
keeps x (n ∷ ns) vs t l =
    keeps x ns (vs ++ node_value x vs n ∷ []) t (let e = longer vs (node_value x vs n) in omega arith) ∙ at_front vs (node_value x vs n ∷ []) t l

-- where the nodes up to a place have the same values over all lists, so has the place
pub same_up_to : (x y : TermReading) (ns : List TermNode) (vs : List TermValue) (t : ℕ) →
    ((i : ℕ) → i ≤ t → (ws : List TermValue) → node_value x ws (node_at ns i) ≡ node_value y ws (node_at ns i)) →
    t < length ns → value_at (values_from x vs ns) (t + length vs) ≡ value_at (values_from y vs ns) (t + length vs)
unfolding values_from
same_up_to x y [] vs t f l = absurd (omega arith)
same_up_to x y (n ∷ ns) vs zero f l =
    let e = longer vs (node_value x vs n) in let g = longer vs (node_value y vs n) in
    keeps x ns (vs ++ node_value x vs n ∷ []) (0 + length vs) (omega arith)
    ∙ ap (λ z. value_at (vs ++ z ∷ []) (0 + length vs)) (f 0 (omega arith) vs)
    ∙ sym (keeps y ns (vs ++ node_value y vs n ∷ []) (0 + length vs) (omega arith))
same_up_to x y (n ∷ ns) vs (suc t) f l =
    let g : suc t + length vs ≡ t + length (vs ++ node_value y vs n ∷ []) = (let e = longer vs (node_value y vs n) in omega arith) in
    ap (λ z. value_at (values_from x (vs ++ z ∷ []) ns) (suc t + length vs)) (f 0 (omega arith) vs)
    ∙ ap (value_at (values_from x (vs ++ node_value y vs n ∷ []) ns)) g
    ∙ same_up_to x y ns (vs ++ node_value y vs n ∷ []) t (λ i le ws. f (suc i) (omega arith) ws) (omega arith)
    ∙ sym (ap (value_at (values_from y (vs ++ node_value y vs n ∷ []) ns)) g)

pub same_term : (x y : TermReading) (ns : List TermNode) (t : ℕ) →
    ((i : ℕ) → i ≤ t → (ws : List TermValue) → node_value x ws (node_at ns i) ≡ node_value y ws (node_at ns i)) →
    t < length ns → term_word x ns t ≡ term_word y ns t
same_term x y ns t f l =
    let g : t + 0 ≡ t = omega arith in
    ap (λ z. (value_at (values_from x [] ns) z).word) (sym g) ∙ ap (λ z. z.word) (same_up_to x y ns [] t f l) ∙ ap
    (λ z. (value_at (values_from y [] ns) z).word) g

-- two readings have the same inputs, with base reads below a number
pub record Agree (u : UnrolledProgram) (k : ℕ) (x y : TermReading) : Type 0 where
  pub regs : (n : ℕ) → is_register_of u n ≡ true → x.regs 0 n ≡ y.regs 0 n
  pub flags : (f : ℕ) → is_flag_of u f ≡ true → x.flags 0 f ≡ y.flags 0 f
  pub choice : (i : ℕ) → DrawsAt u i → x.choice i ≡ y.choice i
  pub base : (j : ℕ) → j < k → x.base 0 j ≡ y.base 0 j

pub agree_back : (u : UnrolledProgram) (k : ℕ) (x y : TermReading) → Agree u k x y → Agree u k y x
agree_back u k x y a = record {
  regs = λ n h. sym (a.regs n h);
  flags = λ f h. sym (a.flags f h);
  choice = λ i h. sym (a.choice i h);
  base = λ j h. sym (a.base j h);
}

-- so a node that names them has the same value
pub node_same : (u : UnrolledProgram) (k : ℕ) (x y : TermReading) → Agree u k x y → (vs : List TermValue) (n : TermNode) → IsNamedBelow u k n →
    (n ≡ MemoryNode 0 → x.mem 0 ≡ y.mem 0) →
    node_value x vs n ≡ node_value y vs n
node_same u k x y a vs (RegisterNode p r) h m = ap word_value (subst (λ (z : ℕ). x.regs z r ≡ y.regs z r) (sym h.0) (a.regs r h.1))
node_same u k x y a vs (FlagNode p f) h m = ap word_value (subst (λ (z : ℕ). x.flags z f ≡ y.flags z f) (sym h.0) (a.flags f h.1))
node_same u k x y a vs (ChoiceNode i) h m = ap word_value (a.choice i h)
node_same u k x y a vs (BaseNode p j) h m = ap word_value (subst (λ (z : ℕ). x.base z j ≡ y.base z j) (sym h.0) (a.base j h.1))
node_same u k x y a vs (MemoryNode p) h m = ap bytes_value (subst (λ (z : ℕ). x.mem z ≡ y.mem z) (sym h) (m (ap MemoryNode h)))
node_same u k x y a vs (ConstantNode w v) h m = refl
node_same u k x y a vs (BinaryNode o w b c) h m = refl
node_same u k x y a vs (NotNode w b) h m = refl
node_same u k x y a vs (SelectNode w c b e) h m = refl
node_same u k x y a vs (ExtractNode hi lo b) h m = refl
node_same u k x y a vs (ConcatNode g l b c) h m = refl
node_same u k x y a vs (ExtendNode s n e b) h m = refl
node_same u k x y a vs (LoadNode n e b c) h m = refl
node_same u k x y a vs (StoreNode n e b c v) h m = refl
node_same u k x y a vs (JoinNode c b e) h m = refl
node_same u k x y a vs (TakeNode n b e p) h m = absurd h

-- the node at a place is one of the list
pub node_in : (ns : List TermNode) (t : ℕ) → t < length ns → Contains ns (node_at ns t)
node_in [] t l = absurd (omega arith)
node_in (n ∷ ns) zero l = (0, omega arith, refl)
node_in (n ∷ ns) (suc t) l = let q = node_in ns t (omega arith) in (suc q.0, let m = q.1 in omega arith, q.2)

module _ (u : UnrolledProgram) (c : Cells) (formed : AreFormed u c) where
  no_memory : (i : ℕ) → i < length c.nodes → (x y : TermReading) → node_at c.nodes i ≡ MemoryNode 0 → x.mem 0 ≡ y.mem 0
  no_memory i l x y e = absurd (subst IsOfWords e (formed.words (node_at c.nodes i) (node_in c.nodes i l)))

  -- so has every word of the cells
  pub word_same : (x y : TermReading) → Agree u (length c.addresses) x y → (t : ℕ) → t < length c.nodes → term_word x c.nodes t ≡ term_word y c.nodes t
  word_same x y a t l =
      same_term x y c.nodes t
      (λ i le ws. node_same u (length c.addresses) x y a ws (node_at c.nodes i) (formed.named (node_at c.nodes i) (node_in c.nodes i (omega arith)))
      (no_memory i (omega arith) x y)) l

  -- and the address of a read, where the reads before it are the same
  pub address_same : (x y : TermReading) (j : ℕ) → j < length c.addresses → Agree u j x y → read_address c x j ≡ read_address c y j
  address_same x y j l a =
      let at = formed.addresses j l in
      same_term x y c.nodes _
      (λ i le ws. node_same u j x y a ws (node_at c.nodes i) (formed.early j i l le) (no_memory i (let b = at.0 in omega arith) x y)) at.0

-- the words of a list of values have the widths of the nodes
record Fit (vs : List TermValue) (ns : List TermNode) : Type 0 where
  count : length vs ≡ length ns
  words : (t : ℕ) → (value_at vs t).word < 2 ^ width_of (node_at ns t)

operate_below : (o : BinaryOp) (n a b : ℕ) → a < 2 ^ n → b < 2 ^ n → operate o n a b < 2 ^ result_width o n
operate_below o n a b p q =
    let w = word_of (result_width o n) (on_words o n a b) (op_below o n a b p q) in
    subst (λ (z : ℕ). z < 2 ^ result_width o n) (sym (ap word_part w.1)) w.2

select_below : (c a b m : ℕ) → a < m → b < m → select c a b < m
select_below zero a b m p q = q
select_below (suc c) a b m p q = p

concat_below : (n m a b : ℕ) → a < 2 ^ n → b < 2 ^ m → a * 2 ^ m + b < 2 ^ (n + m)
concat_below n m a b p q = subst (λ (z : ℕ). a * 2 ^ m + b < z) (sym (pow-add 2 n m)) (let r = mul-add-lt a (2 ^ m) b (2 ^ n) p q in
    let e = mul_comm (2 ^ m) (2 ^ n) in omega arith)

module _ (x : TermReading) (is : InRange x) (vs : List TermValue) (ns : List TermNode) (fit : Fit vs ns) where
  at_width : (w t : ℕ) → HasWidth ns w t → (value_at vs t).word < 2 ^ w
  at_width w t h = subst (λ (z : ℕ). (value_at vs t).word < 2 ^ z) h.1 (fit.words t)

  one_fits : (n : TermNode) → IsTypedOver ns n → IsOfWords n → (node_value x vs n).word < 2 ^ width_of n
  one_fits (RegisterNode p r) h w = is.regs p r
  one_fits (FlagNode p f) h w = is.flags p f
  one_fits (ChoiceNode i) h w = is.choice i
  one_fits (BaseNode p j) h w = is.base p j
  one_fits (MemoryNode p) h w = absurd w
  one_fits (ConstantNode k v) h w = h.1
  one_fits (BinaryNode o k a b) h w = operate_below o k (value_at vs a).word (value_at vs b).word (at_width k a h.1) (at_width k b h.2)
  one_fits (NotNode k a) h w = complement_below k (value_at vs a).word
  one_fits (SelectNode k c a b) h w = select_below (value_at vs c).word (value_at vs a).word (value_at vs b).word (2 ^ k) (at_width k a h.2) (at_width k b h.3)
  one_fits (ExtractNode hi lo a) h w = mod_below _ (2 ^ (hi + 1 - lo)) (pow_pos (hi + 1 - lo))
  one_fits (ConcatNode g l a b) h w = concat_below g l (value_at vs a).word (value_at vs b).word (at_width g a h.3) (at_width l b h.4)
  one_fits (ExtendNode true n m a) h w = sign_extend_below n m (value_at vs a).word (at_width n a h.3) h.1
  one_fits (ExtendNode false n m a) h w = let p = pow-le-pow_right (let two : 1 ≤ 2 = omega arith in two) h.1 in let q = at_width n a h.3 in omega arith
  one_fits (LoadNode n e m a) h w = absurd w
  one_fits (StoreNode n e m a v) h w = absurd w
  one_fits (JoinNode c a b) h w = absurd w
  one_fits (TakeNode n m a p) h w = absurd w

  next_value : (us : List TermValue) (ms : List TermNode) (v : TermValue) (n : TermNode) → length us ≡ length ms →
      ((t : ℕ) → (value_at us t).word < 2 ^ width_of (node_at ms t)) →
      v.word < 2 ^ width_of n → (t : ℕ) → (value_at (us ++ v ∷ []) t).word < 2 ^ width_of (node_at (ms ++ n ∷ []) t)
  next_value [] [] v n e f g zero = g
  next_value [] [] v n e f g (suc t) = f 0
  next_value [] (m ∷ ms) v n e f g t = absurd (omega arith)
  next_value (w ∷ us) [] v n e f g t = absurd (omega arith)
  next_value (w ∷ us) (m ∷ ms) v n e f g zero = f 0
  next_value (w ∷ us) (m ∷ ms) v n e f g (suc t) = next_value us ms v n (omega arith) (λ i. f (suc i)) g t

  next_fits : (n : TermNode) → IsTypedOver ns n → IsOfWords n → Fit (vs ++ node_value x vs n ∷ []) (ns ++ n ∷ [])
  next_fits n h w = record {
    count = both vs ns (node_value x vs n) n fit.count;
    words = next_value vs ns (node_value x vs n) n fit.count fit.words
        (one_fits n h w);
  }
    where
      both : (us : List TermValue) (ms : List TermNode) (v : TermValue) (n : TermNode) → length us ≡ length ms → length (us ++ v ∷ []) ≡ length (ms ++ n ∷ [])
      both [] [] v n e = refl
      both [] (m ∷ ms) v n e = absurd (omega arith)
      both (w ∷ us) [] v n e = absurd (omega arith)
      both (w ∷ us) (m ∷ ms) v n e = let r = both us ms v n (omega arith) in omega arith

append_one : (ns ms : List TermNode) (n : TermNode) → (ns ++ n ∷ []) ++ ms ≡ ns ++ n ∷ ms
append_one [] ms n = refl
append_one (m ∷ ns) ms n = ap (λ z. m ∷ z) (append_one ns ms n)

all_fit : (x : TermReading) → InRange x → (ms : List TermNode) (vs : List TermValue) (ns : List TermNode) → Fit vs ns → AreTypedFrom ns ms →
    ((n : TermNode) → Contains ms n → IsOfWords n) →
    Fit (values_from x vs ms) (ns ++ ms)
unfolding values_from
all_fit x is [] vs ns fit h w = subst (λ (z : List TermNode). Fit vs z) (back ns) fit
  where
    back : (ns : List TermNode) → ns ≡ ns ++ []
    back [] = refl
    back (m ∷ ns) = ap (λ z. m ∷ z) (back ns)
all_fit x is (n ∷ ms) vs ns fit h w =
    subst (λ (z : List TermNode). Fit (values_from x vs (n ∷ ms)) z) (append_one ns ms n)
    (all_fit x is ms (vs ++ node_value x vs n ∷ []) (ns ++ n ∷ []) (next_fits x is vs ns fit n h.0 (w n (0, omega arith, refl))) h.1
    (λ m (i, l, e). w m (suc i, omega arith, e)))

-- the word of a place of nodes over words has its width
pub words_fit : (nodes : List TermNode) → AreTyped nodes → ((n : TermNode) → Contains nodes n → IsOfWords n) → (x : TermReading) → InRange x → (w t : ℕ) →
    HasWidth nodes w t → term_word x nodes t < 2 ^ w
words_fit nodes typed words x is w t h =
    let fit = all_fit x is nodes [] [] (record { count = refl; words = λ i. let one : 0 < 1 = omega arith in one }) typed words in
    subst (λ (z : ℕ). term_word x nodes t < 2 ^ z) h.1 (fit.words t)

-- so has that of cells
pub word_fits : (u : UnrolledProgram) (c : Cells) → AreFormed u c → (x : TermReading) → InRange x → (w t : ℕ) → HasWidth c.nodes w t →
    term_word x c.nodes t < 2 ^ w
word_fits u c formed = words_fit c.nodes formed.typed formed.words
