-- Bytes of memory terms, one node after another.
use Rattle.std.proofs.Common.{◌≡◌, ℕ, zero, suc, ◌+◌, ◌^◌, ◌<◌, ◌≤◌, Bool, true, false, List, [], length, refl, ap, sym, ◌∙◌, arith}
use Rattle.std.specs.Prelude.{nat_eq, nat_lt, if◌then◌else◌, ◌||◌, map, slice_index}
use Rattle.std.specs.List.{list_any}
use Rattle.std.proofs.lemmas.Bool.Decides.{nat_tests}
use Rattle.std.proofs.lemmas.Nat.{mod_below, pow_pos, xor_of_8}
use Rattle.word_spec.specs.Words as words
use Rattle.word_spec.specs.Memory.{endian, byte_of}
use Rattle.word_spec.specs.RowFiles.{from_to}
use Rattle.term_spec.specs.Terms.{TermReading, InRange, TermNode, MemoryNode, StoreNode, JoinNode, TakeNode, TermValue, node_value, values_from, term_value, term_word, node_at, AreTyped, select, is_taken_at}
use Rattle.term_dag.specs.declared.nodes.Term.{Term}
use Rattle.term_dag.specs.declared.nodes.Node.{Node}
use Rattle.term_dag.specs.declared.nodes.Node.TheVariants as node
use Rattle.term_dag.specs.Nodes.{node_of}
use Rattle.term_dag.specs.declared.values.Parts.{Parts}
use Rattle.term_dag.specs.declared.values.Reading.{Reading}
use Rattle.term_dag.specs.Readings.{AreWords, reading_of, reading_of_parts}
use Rattle.term_dag.proofs.ListLaws.{by_node, typed_here, typed_before, place_before}
use Rattle.term_dag.proofs.Ranges.{word_fits}

stored_here : (k n b m : ℕ) → k < n → (if nat_lt k n then b else m) ≡ b
stored_here k n b m h = grind (arith, nat_tests)

stored_past : (k n b m : ℕ) → n ≤ k → (if nat_lt k n then b else m) ≡ m
stored_past k n b m h = grind (arith, nat_tests)

equal_numbers : (a b : ℕ) → nat_eq a b ≡ true → a ≡ b
equal_numbers a b h = grind (arith, nat_tests)

below_other : (a b : ℕ) → nat_eq a b ≡ false → a ≤ b → a < b
below_other a b h l = grind (arith, nat_tests)

equal_test : (a b : ℕ) → a ≡ b → nat_eq a b ≡ true
equal_test a b h = grind (arith, nat_tests)

other_test : (a b : ℕ) → (a ≡ b → ⊥) → nat_eq a b ≡ false
other_test a b h = grind (arith, nat_tests)

same_address : (i w s : ℕ) → i < 2 ^ 32 → w < 2 ^ 32 → s ≡ words.sub 32 i w → nat_eq i (words.add 32 w s) ≡ true
same_address i w s h l e = equal_test i (words.add 32 w s) (omega (arith, e))

other_address : (i w s : ℕ) → i < 2 ^ 32 → w < 2 ^ 32 → s < words.sub 32 i w → nat_eq i (words.add 32 w s) ≡ false
other_address i w s h l e = other_test i (words.add 32 w s) (λ q. omega (arith, e, q))

taken_by : (i w s : ℕ) (more : Bool) (b : Bool) → i < 2 ^ 32 → w < 2 ^ 32 → nat_eq s (words.sub 32 i w) ≡ b → s ≤ words.sub 32 i w →
    (s < words.sub 32 i w → more ≡ true) → (nat_eq i (words.add 32 w s) || more) ≡ true
taken_by i w s more true h l e a f = ap (λ z. z || more) (same_address i w s h l (equal_numbers s (words.sub 32 i w) e))
taken_by i w s more false h l e a f =
    let q : s < words.sub 32 i w = below_other s (words.sub 32 i w) e a in ap (λ z. z || more) (other_address i w s h l q) ∙ f q

-- of so many addresses from a place on, one is that of its distance from the first
taken_from : (i w s n : ℕ) → i < 2 ^ 32 → w < 2 ^ 32 → s ≤ words.sub 32 i w → words.sub 32 i w < s + n →
    list_any (nat_eq i) (map (words.add 32 w) (from_to s n)) ≡ true
taken_from i w s zero h l a b = absurd (omega (arith, a, b))
taken_from i w s (suc n) h l a b =
    taken_by i w s (list_any (nat_eq i) (map (words.add 32 w) (from_to (s + 1) n))) (nat_eq s (words.sub 32 i w)) h l refl a
    (λ q. taken_from i w (s + 1) n h l (omega (arith, q)) (omega (arith, b)))

not_taken_from : (i w s n : ℕ) → i < 2 ^ 32 → w < 2 ^ 32 → s + n ≤ words.sub 32 i w → list_any (nat_eq i) (map (words.add 32 w) (from_to s n)) ≡ false
not_taken_from i w s zero h l a = refl
not_taken_from i w s (suc n) h l a =
    ap (λ z. z || list_any (nat_eq i) (map (words.add 32 w) (from_to (s + 1) n))) (other_address i w s h l (omega (arith, a)))
    ∙ not_taken_from i w (s + 1) n h l (omega (arith, a))

chosen_first : (c a b : ℕ) → 0 < c → select c a b ≡ a
chosen_first zero a b h = absurd (omega arith)
chosen_first (suc c) a b h = refl

chosen_second : (c a b : ℕ) → c ≤ 0 → select c a b ≡ b
chosen_second zero a b h = refl
chosen_second (suc c) a b h = absurd (omega arith)

module _ (x : TermReading) (ns : List TermNode) (ws : List ℕ) (t i : ℕ) (h : AreTyped ns) (w : AreWords x ns ws) (l : t < length ns) where
  pub entry_byte : (p : ℕ) → MemoryNode p ≡ node_at ns t → x.mem p i ≡ (term_value x ns t).bytes i
  entry_byte p e = sym (ap (λ z. z.bytes i) (by_node x ns t (MemoryNode p) h l e))

  module _ (n : ℕ) (big : Bool) (m a v k : ℕ) (e : StoreNode n (endian big) m a v ≡ node_at ns t) (f : words.sub 32 i (slice_index ws a) ≡ k) where
    pub address_within : a < length ns
    address_within = (typed_here ns t (StoreNode n (endian big) m a v) h l e).2.0

    at_word : words.sub 32 i (term_word x ns a) ≡ k
    at_word = ap (words.sub 32 i) (sym (w.each a address_within)) ∙ f

    pub in_store : k < n → byte_of (endian big) n (slice_index ws v) k ≡ (term_value x ns t).bytes i
    in_store q =
        let y = typed_here ns t (StoreNode n (endian big) m a v) h l e in
        ap (λ z. byte_of (endian big) n z k) (w.each v y.3.0)
        ∙ sym (
        ap (λ z. z.bytes i) (by_node x ns t (StoreNode n (endian big) m a v) h l e)
        ∙ ap (λ z. if nat_lt z n then byte_of (endian big) n (term_word x ns v) z else (term_value x ns m).bytes i) at_word ∙ stored_here k n _ _ q)

    pub past_store : n ≤ k → (term_value x ns m).bytes i ≡ (term_value x ns t).bytes i
    past_store q =
        sym (
        ap (λ z. z.bytes i) (by_node x ns t (StoreNode n (endian big) m a v) h l e)
        ∙ ap (λ z. if nat_lt z n then byte_of (endian big) n (term_word x ns v) z else (term_value x ns m).bytes i) at_word ∙ stored_past k n _ _ q)

    pub store_before : m < t
    store_before = place_before ns t 0 m l (typed_before ns t (StoreNode n (endian big) m a v) h l e).1

  module _ (n m a p k : ℕ) (e : TakeNode n m a p ≡ node_at ns t) (r : InRange x) (s : i < 2 ^ 32) (f : words.sub 32 i (slice_index ws a) ≡ k) where
    first_within : a < length ns
    first_within = (typed_here ns t (TakeNode n m a p) h l e).2.0

    first_word : term_word x ns a < 2 ^ 32
    first_word = word_fits x ns 32 a r h (typed_here ns t (TakeNode n m a p) h l e).2

    distance : words.sub 32 i (term_word x ns a) ≡ k
    distance = ap (words.sub 32 i) (sym (w.each a first_within)) ∙ f

    taken_value : (term_value x ns t).bytes i ≡ (if is_taken_at n (term_word x ns a) i then x.mem p i else (term_value x ns m).bytes i)
    taken_value = ap (λ z. z.bytes i) (by_node x ns t (TakeNode n m a p) h l e)

    pub in_take : k < n → x.mem p i ≡ (term_value x ns t).bytes i
    in_take q = sym (taken_value ∙ ap (λ b. if b then x.mem p i else (term_value x ns m).bytes i)
        (taken_from i (term_word x ns a) 0 n s first_word (omega arith) (omega (arith, distance, q))))

    pub past_take : n ≤ k → (term_value x ns m).bytes i ≡ (term_value x ns t).bytes i
    past_take q = sym (taken_value ∙ ap (λ b. if b then x.mem p i else (term_value x ns m).bytes i)
        (not_taken_from i (term_word x ns a) 0 n s first_word (omega (arith, distance, q))))

    pub take_before : m < t
    take_before = place_before ns t 0 m l (typed_before ns t (TakeNode n m a p) h l e).1

  module _ (c a b : ℕ) (e : JoinNode c a b ≡ node_at ns t) where
    pub join_within : (c < length ns) × (a < length ns) × (b < length ns)
    join_within = let y = typed_here ns t (JoinNode c a b) h l e in (y.0.0, y.1.0, y.2.0)

    pub first_before : a < t
    first_before = place_before ns t 0 a l (typed_before ns t (JoinNode c a b) h l e).1

    pub second_before : b < t
    second_before = place_before ns t 0 b l (typed_before ns t (JoinNode c a b) h l e).2

    pub join_first : 0 < slice_index ws c → (term_value x ns a).bytes i ≡ (term_value x ns t).bytes i
    join_first q = sym (ap (λ z. z.bytes i) (by_node x ns t (JoinNode c a b) h l e) ∙ chosen_first (term_word x ns c) _ _
        (omega (arith, w.each c join_within.0, q)))

    pub join_second : slice_index ws c ≤ 0 → (term_value x ns b).bytes i ≡ (term_value x ns t).bytes i
    join_second q = sym (ap (λ z. z.bytes i) (by_node x ns t (JoinNode c a b) h l e) ∙ chosen_second (term_word x ns c) _ _
        (omega (arith, w.each c join_within.0, q)))

word_bytes : (x : TermReading) (vs : List TermValue) (n : Node) (i : ℕ) → ((k : ℕ) → n ≡ node.Memory k → ⊥) →
    ((k : ℕ) (g : Bool) (m a v : Term) → n ≡ node.Store k g m a v → ⊥) →
    ((c a b : Term) → n ≡ node.Join c a b → ⊥) →
    ((k : ℕ) (m a : Term) (p : ℕ) → n ≡ node.Take k m a p → ⊥) → 0 ≡ (node_value x vs (node_of n)).bytes i
word_bytes x vs (node.Register k j) i p q s r = refl
word_bytes x vs (node.Flag k f) i p q s r = refl
word_bytes x vs (node.Choice j) i p q s r = refl
word_bytes x vs (node.Base k j) i p q s r = refl
word_bytes x vs (node.Memory k) i p q s r = absurd (p k refl)
word_bytes x vs (node.Constant w v) i p q s r = refl
word_bytes x vs (node.Binary o w a b) i p q s r = refl
word_bytes x vs (node.Not w a) i p q s r = refl
word_bytes x vs (node.Select w c a b) i p q s r = refl
word_bytes x vs (node.Extract hi lo a) i p q s r = refl
word_bytes x vs (node.Concat high low a b) i p q s r = refl
word_bytes x vs (node.Extend g n m a) i p q s r = refl
word_bytes x vs (node.Load n g m a) i p q s r = refl
word_bytes x vs (node.Store n g m a v) i p q s r = absurd (q n g m a v refl)
word_bytes x vs (node.Join c a b) i p q s r = absurd (s c a b refl)
word_bytes x vs (node.Take n m a k) i p q s r = absurd (r n m a k refl)

-- a word has no bytes
pub no_bytes : (x : TermReading) (ns : List TermNode) (t : ℕ) (n : Node) (i : ℕ) → AreTyped ns → t < length ns → node_of n ≡ node_at ns t →
    ((k : ℕ) → n ≡ node.Memory k → ⊥) →
    ((k : ℕ) (g : Bool) (m a v : Term) → n ≡ node.Store k g m a v → ⊥) → ((c a b : Term) → n ≡ node.Join c a b → ⊥) →
    ((k : ℕ) (m a : Term) (p : ℕ) → n ≡ node.Take k m a p → ⊥) → 0 ≡ (term_value x ns t).bytes i
no_bytes x ns t n i h l e p q s r = word_bytes x (values_from x [] ns) n i p q s r ∙ sym (ap (λ z. z.bytes i) (by_node x ns t (node_of n) h l e))

-- what data stand for is in range
pub in_range : (r : Reading) → InRange (reading_of r)
in_range r = record {
  regs = λ p n. mod_below _ (2 ^ 32) (pow_pos 32);
  flags = λ p f. mod_below _ 2 (omega arith);
  mem = λ p a. xor_of_8 _ _ (mod_below _ 256 (omega arith)) (mod_below _ 256 (omega arith));
  choice = λ i. mod_below _ 4 (omega arith);
  base = λ p j. mod_below _ 256 (omega arith);
}

pub parts_in_range : (x : Parts) → InRange (reading_of_parts x)
parts_in_range x = record {
  regs = λ p n. mod_below _ (2 ^ 32) (pow_pos 32);
  flags = λ p f. mod_below _ 2 (omega arith);
  mem = λ p a. xor_of_8 _ _ (mod_below _ 256 (omega arith)) (mod_below _ 256 (omega arith));
  choice = λ i. mod_below _ 4 (omega arith);
  base = λ p j. mod_below _ 256 (omega arith);
}
