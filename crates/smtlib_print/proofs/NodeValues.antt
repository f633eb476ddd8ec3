-- The term of a node has the node's value, where the terms of the nodes before it have theirs.
use Rattle.std.proofs.Common.{◌≡◌, ℕ, zero, suc, ◌+◌, ◌-◌, ◌*◌, ◌^◌, ◌<◌, ◌≤◌, refl, ap, sym, ◌∙◌, subst, arith, true, false, List, [], Option, Some, length}
use Rattle.std.specs.Prelude.{◌==◌, nat_lt, nat_le, if◌then◌else◌, slice_index, slice_index_or}
use Rattle.std.proofs.lemmas.Bool.Decides.{nat_tests}
use Rattle.word_spec.specs.Words as words
use Rattle.word_spec.specs.Memory.{Memory}
use Rattle.machine_spec.specs.BilTyping.{result_width}
use Rattle.bilv_spec.specs.Scripts.{choice_name}
use Rattle.machine_spec.specs.StateText.{Layout}
use Rattle.bilv_spec.specs.SmtLib.{SmtValue, WordValue, ArrayValue, atom_value, term_value}
use Rattle.machine_spec.proofs.Spelling.{same_number, decimal_back}
use Rattle.term_spec.specs.Terms as terms
use Rattle.term_spec.specs.Terms.{TermReading, InRange, TermValue, TermNode, RegisterNode, FlagNode, ChoiceNode, BaseNode, MemoryNode, ConstantNode, BinaryNode, NotNode, SelectNode, ExtractNode, ConcatNode, ExtendNode, LoadNode, StoreNode, JoinNode, TakeNode, word_value, bytes_value, value_at, node_value, values_from, width_of, node_at, HasWidth, IsTypedOver, AreTyped, select, extend}
use Rattle.term_dag.proofs.Ranges.{word_fits, result_is_width}
use Rattle.term_dag.proofs.Shapes.{few_bits}
use Rattle.smtlib_print.specs.Commands as commands
use Rattle.smtlib_print.specs.Commands.{memory_in, name_in, term_name, node_term}
use Rattle.smtlib_print.proofs.Constants.{constant_value, hex_constant}
use Rattle.smtlib_print.proofs.Memories.{SameBelow, loading_value, storing_value, taking_value}
use Rattle.smtlib_print.proofs.Names.{term_symbol, symbol_value}
use Rattle.smtlib_print.proofs.Operations.{operation_value}

-- what a script says has a value of a width, or a memory's value
pub record IsValue (w : ℕ) (v : TermValue) (o : Option SmtValue) : Type 0 where
  pub word : 1 ≤ w → o ≡ Some (WordValue w v.word)
  pub bytes : w ≡ 0 → (f : Memory) × (o ≡ Some (ArrayValue f)) × SameBelow f v.bytes

word_is : (w : ℕ) (v : TermValue) (o : Option SmtValue) → 1 ≤ w → o ≡ Some (WordValue w v.word) → IsValue w v o
word_is w v o s h = record { word = λ t. h; bytes = λ z. absurd (omega (arith, s, z)) }

memory_is : (v : TermValue) (o : Option SmtValue) (f : Memory) → o ≡ Some (ArrayValue f) → SameBelow f v.bytes → IsValue 0 v o
memory_is v o f h s = record { word = λ z. absurd (omega (arith, z)); bytes = λ z. (f, h, s) }

-- the terms of nodes have their values
pub record Knows (symbols : List ℕ → Option SmtValue) (x : TermReading) (ns : List TermNode) : Type 0 where
  pub terms : (t : ℕ) → t < length ns → IsValue (width_of (node_at ns t)) (terms.term_value x ns t) (symbols (term_name t))

-- an input has its value
abbrev pub HasInput : (symbols : List ℕ → Option SmtValue) → Layout → (numbers : List ℕ) → TermReading → TermNode → Type 0
HasInput symbols layout numbers x (RegisterNode p r) =
    atom_value symbols (name_in numbers p (slice_index_or layout.registers (r - layout.first) [])) ≡ Some (WordValue 32 (x.regs p r))
HasInput symbols layout numbers x (FlagNode p f) =
    atom_value symbols (name_in numbers p (slice_index_or layout.flags (length layout.flags - 1 - f) [])) ≡ Some (WordValue 1 (x.flags p f))
HasInput symbols layout numbers x (ChoiceNode i) = atom_value symbols (choice_name (slice_index numbers i)) ≡ Some (WordValue 2 (x.choice i))
HasInput symbols layout numbers x (BaseNode p j) = x.base p j ≡ 0
HasInput symbols layout numbers x (MemoryNode p) = atom_value symbols (memory_in numbers p) ≡ Some (ArrayValue (x.mem p))
HasInput symbols layout numbers x (TakeNode n m a p) = atom_value symbols (memory_in numbers p) ≡ Some (ArrayValue (x.mem p))
HasInput symbols layout numbers x n = Unit {0}

select_is : (c a b : ℕ) → c < 2 → (if c == 1 then a else b) ≡ select c a b
select_is zero a b h = refl
select_is (suc zero) a b h = refl
select_is (suc (suc c)) a b h = absurd (omega arith)

same_width : (m n v : ℕ) → m ≡ n → Some (WordValue m v) ≡ Some (WordValue n v)
same_width m n v h = ap (λ z. Some (WordValue z v)) h

same_word : (n u v : ℕ) → u ≡ v → Some (WordValue n u) ≡ Some (WordValue n v)
same_word n u v h = ap (λ z. Some (WordValue n z)) h

module _ (symbols : List ℕ → Option SmtValue) (layout : Layout) (numbers : List ℕ) (x : TermReading) (range : InRange x) (ns : List TermNode)
    (typed : AreTyped ns)
    (few : length ns < 2 ^ 64) (knows : Knows symbols x ns) where
  -- the word of an operand
  the_word : ℕ → ℕ
  the_word t = terms.term_word x ns t

  word_known : (w t : ℕ) → 1 ≤ w → HasWidth ns w t → atom_value symbols (term_name t) ≡ Some (WordValue w (terms.term_word x ns t))
  word_known w t s h =
      symbol_value symbols (term_name t) (term_symbol t (omega (arith, h.0)))
      ∙ subst (λ (k : ℕ). symbols (term_name t) ≡ Some (WordValue k (terms.term_word x ns t))) h.1 ((knows.terms t h.0).word (omega (arith, h.1)))

  memory_known : (t : ℕ) → HasWidth ns 0 t → (f : Memory) × (atom_value symbols (term_name t) ≡ Some (ArrayValue f))
      × SameBelow f (terms.term_value x ns t).bytes
  memory_known t h =
      let k = (knows.terms t h.0).bytes h.1 in
      (k.0, symbol_value symbols (term_name t) (term_symbol t (omega (arith, h.0))) ∙ k.1, k.2)

  below : (w t : ℕ) → HasWidth ns w t → terms.term_word x ns t < 2 ^ w
  below w t h = word_fits x ns w t range typed h

  values : List TermValue
  values = values_from x [] ns

  pub says : (n : TermNode) → IsTypedOver ns n → HasInput symbols layout numbers x n →
      IsValue (width_of n) (node_value x (values_from x [] ns) n) (term_value symbols (node_term layout numbers n))
  says (RegisterNode p r) h i = word_is 32 _ _ (omega arith) i
  says (FlagNode p f) h i = word_is 1 _ _ (omega arith) i
  says (ChoiceNode j) h i = word_is 2 _ _ (omega arith) i
  says (BaseNode p j) h i = word_is 8 _ _ (omega arith) (hex_constant symbols 2 0 (omega arith) (omega arith) ∙ same_word 8 0 (x.base p j) (sym i))
  says (MemoryNode p) h i = memory_is _ _ (x.mem p) i (λ a l. refl)
  says (ConstantNode w v) h i = word_is w _ _ h.0.0 (constant_value symbols w v (omega (arith, h.0.0)) h.1)
  says (BinaryNode o w a b) h i =
      word_is (result_width o w) _ _ (result_is_width o w h.0.0 h.0.1).0
      (operation_value symbols w a b _ _ (word_known w a h.0.0 h.1) (word_known w b h.0.0 h.2) o (below w a h.1) (below w b h.2)
      (λ v l. constant_value symbols w v (omega (arith, h.0.0)) l))
  says (NotNode w a) h i = word_is w _ _ h.0.0 (rw (word_known w a h.0.0 h.1) refl)
  says (SelectNode w c a b) h i =
      word_is w _ _ h.0.0
      (rw (word_known 1 c (omega arith) h.1, word_known w a h.0.0 h.2, word_known w b h.0.0 h.3, same_number w)
      (same_word w _ _ (select_is (terms.term_word x ns c) _ _ (below 1 c h.1))))
  says (ExtractNode hi lo a) h i =
      let w = width_of (node_at ns a) in
      let f = few_bits ns a typed h.2 in
      let l : nat_le lo hi ≡ true = grind (arith, nat_tests, h.0) in
      let r : nat_lt hi w ≡ true = grind (arith, nat_tests, h.1) in
      word_is _ _ _ (omega (arith, h.0))
      (rw (word_known w a (omega (arith, h.1)) (h.2, refl), decimal_back hi (omega (arith, h.1, f)), decimal_back lo (omega (arith, h.0, h.1, f)), l, r) refl)
  says (ConcatNode high low a b) h i = word_is _ _ _ (omega (arith, h.0.0)) (rw (word_known high a h.0.0 h.3, word_known low b h.1.0 h.4) refl)
  says (ExtendNode true n m a) h i =
      let e : n + (m - n) ≡ m = omega (arith, h.1) in
      word_is m _ _ (omega (arith, h.0.0, h.1))
      (rw (word_known n a h.0.0 h.3, decimal_back (m - n) (omega (arith, h.2)))
      (ap (λ k. Some (WordValue k (words.sign_extend n k (terms.term_word x ns a)))) e))
  says (ExtendNode false n m a) h i =
      let e : n + (m - n) ≡ m = omega (arith, h.1) in
      word_is m _ _ (omega (arith, h.0.0, h.1)) (rw (word_known n a h.0.0 h.3, decimal_back (m - n) (omega (arith, h.2))) (same_width _ _ _ e))
  says (LoadNode n e m a) h i =
      let k : suc (n - 1) ≡ n = omega (arith, h.0.0) in
      let f = memory_known m h.1 in
      word_is _ _ _ (omega (arith, h.0.0))
      (subst (λ (l : ℕ). term_value symbols (commands.loading e m a (n - 1))
      ≡ Some (WordValue (8 * l) (node_value x (values_from x [] ns) (LoadNode l e m a)).word)) k
      (loading_value symbols a _ (word_known 32 a (omega arith) h.2) (below 32 a h.2) m f.0 _ f.1 f.2 e (n - 1) (omega (arith, h.0.1))))
  says (StoreNode n e m a v) h i =
      let f = memory_known m h.1 in
      let s = storing_value symbols a _ (word_known 32 a (omega arith) h.2) (below 32 a h.2) m f.0 _ f.1 f.2 e n v _
      (word_known (8 * n) v (omega (arith, h.0.0)) h.3)
      (omega (arith, h.0.1)) n (omega arith) in
      memory_is _ _ s.0 s.1 s.2
  says (JoinNode c a b) h i =
      let f = memory_known a h.1 in
      let g = memory_known b h.2 in
      memory_is _ _ (λ z. if terms.term_word x ns c == 1 then f.0 z else g.0 z)
      (rw (word_known 1 c (omega arith) h.0, f.1, g.1) refl)
      (λ z l. select_is (terms.term_word x ns c) (f.0 z) (g.0 z) (below 1 c h.0)
      ∙ ap (λ u. select (terms.term_word x ns c) u (g.0 z)) (f.2 z l) ∙ ap (select (terms.term_word x ns c) ((terms.term_value x ns a).bytes z)) (g.2 z l))
  says (TakeNode n m a p) h i =
      let f = memory_known m h.1 in
      let s = taking_value symbols a (terms.term_word x ns a) (word_known 32 a (omega arith) h.2) (below 32 a h.2) m f.0 (terms.term_value x ns m).bytes f.1 f.2
      (memory_in numbers p) (x.mem p) i n in
      memory_is _ _ s.0 s.1 s.2
