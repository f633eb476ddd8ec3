-- Words that stand in for inputs.
use Rattle.std.proofs.Common.{◌≡◌, ℕ, zero, suc, ◌+◌, ◌*◌, ◌<◌, Bool, true, false, List, [], ◌∷◌, ◌++◌, length, take, set, drop, get_or, refl, ap, sym, ◌∙◌, arith}
use Rattle.std.specs.Prelude.{◌==◌, if◌then◌else◌}
use Rattle.std.specs.Global.{Vec}
use Rattle.std.proofs.lemmas.Bool.Decides.{nat_tests}
use Rattle.std.proofs.lemmas.List.{append-nil, drop_all, get_or-map, map-set, set-get_or, take_all}
use Rattle.word_spec.specs.Words.{bit}
use Rattle.term_spec.specs.Terms.{TermReading, TermNode, TermValue, RegisterNode, FlagNode, ChoiceNode, BaseNode, MemoryNode, ConstantNode, BinaryNode, NotNode, SelectNode, ExtractNode, ConcatNode, ExtendNode, LoadNode, StoreNode, JoinNode, TakeNode, node_at, node_value, term_word, value_at, values_from, AreTyped}
use Rattle.term_dag.specs.Nodes.{IsWordInput}
use Rattle.term_dag.proofs.ListLaws.{by_node}
use Rattle.term_dag.specs.declared.nodes.Term.{Term}
use Rattle.gates.specs.declared.bit.Bit.{Bit}
use Rattle.gates.specs.Circuits.{bit_value}
use Rattle.word_gates.specs.Numbers.{input_number, number}
use Rattle.word_gates.proofs.Words.{no_bit}
use Rattle.pair_spec.specs.PairTerms.{same_words}
use Rattle.bit_blast.specs.Places.{truths}
use Rattle.bit_blast.specs.BitWords.{values_of}
use Rattle.bit_blast.proofs.Seen.{seen_at}
use Rattle.pair_blast.specs.PairWords.{words_read, words_under}
use Rattle.pair_blast.proofs.EqualWords.{no_term}

-- what a list holds after all of it was written
pub written : (xs ys : List Bit) (n : ℕ) → length xs ≡ length ys → n ≡ length ys → take n (xs ++ drop (length xs) ys) ≡ xs
written xs ys n e f =
    ap (λ (z : List Bit). take n (xs ++ z)) (drop_all (length xs) ys (omega arith)) ∙ ap (λ (z : List Bit). take n z) (append-nil xs)
    ∙ take_all n xs (omega arith)

-- a bit that has the truth of the one in whose place it is put changes no truth
pub set_same : (v : ℕ → Bool) (bits : List Bit) (ts : List Bool) (k : ℕ) (b : Bit) → truths v bits ≡ ts → bit_value v b ≡ get_or ts k false →
    truths v (set bits k b) ≡ ts
set_same v bits ts k b e f =
    map-set (bit_value v) bits k b ∙ ap (λ z. set z k (bit_value v b)) e ∙ ap (λ z. set ts k z) f ∙ set-get_or ts k false

-- a bit of a word that has the number of inputs
pub bit_at : (v w : ℕ → Bool) (bits : List Bit) (f i : ℕ) → number v bits ≡ input_number w f (length bits) → i < length bits →
    bit_value v (get_or bits i no_bit) ≡ w (suc (f + i))
bit_at v w bits f i e l = sym (get_or-map (bit_value v) bits i no_bit false l) ∙ seen_at v w bits f i e l

-- numbers of words with the same truths
pub number_same : (v : ℕ → Bool) (xs ys : List Bit) → truths v xs ≡ truths v ys → number v xs ≡ number v ys
number_same v [] [] e = refl
number_same v [] (y ∷ ys) e = absurd (cc)
number_same v (x ∷ xs) [] e = absurd (cc)
number_same v (x ∷ xs) (y ∷ ys) e =
    let h : bit_value v x ≡ bit_value v y = ap (λ (z : List Bool). get_or z 0 false) e in
    let t : truths v xs ≡ truths v ys = ap (λ (z : List Bool). drop 1 z) e in
    ap (λ z. bit z + 2 * number v xs) h ∙ ap (λ z. bit (bit_value v y) + 2 * z) (number_same v xs ys t)

-- ---- the words of inputs

free : (x : TermReading) (vs : List TermValue) (n : TermNode) → IsWordInput n → (node_value x vs n).word ≡ (node_value x [] n).word
free x vs (RegisterNode p r) h = refl
free x vs (FlagNode p f) h = refl
free x vs (ChoiceNode i) h = refl
free x vs (BaseNode p j) h = refl
free x vs (MemoryNode p) h = absurd h
free x vs (ConstantNode w c) h = absurd h
free x vs (BinaryNode o w a b) h = absurd h
free x vs (NotNode w a) h = absurd h
free x vs (SelectNode w c a b) h = absurd h
free x vs (ExtractNode hi lo a) h = absurd h
free x vs (ConcatNode high low a b) h = absurd h
free x vs (ExtendNode s n m a) h = absurd h
free x vs (LoadNode n e m a) h = absurd h
free x vs (StoreNode n e m a c) h = absurd h
free x vs (JoinNode c a b) h = absurd h
free x vs (TakeNode n m a p) h = absurd h

pub input_word : (x : TermReading) (ns : List TermNode) (t : ℕ) (n : TermNode) → AreTyped ns → t < length ns → n ≡ node_at ns t → IsWordInput n →
    term_word x ns t ≡ (node_value x [] n).word
input_word x ns t n h l e i = ap (λ z. z.word) (by_node x ns t n h l e) ∙ free x (values_from x [] ns) n i

-- ---- equal words

pub is_equal : (a b : ℕ) → (a == b) ≡ true → a ≡ b
is_equal a b h = grind (arith, nat_tests)

pub equal_is : (a b : ℕ) → a ≡ b → (a == b) ≡ true
equal_is a b h = grind (arith, nat_tests)

same_parts : (a b : ℕ) (xs ys : List ℕ) → same_words (a ∷ xs) (b ∷ ys) ≡ true → (a ≡ b) × (same_words xs ys ≡ true)
same_parts a b xs ys h = by (a == b) refl h
  where
    by : (c : Bool) → (a == b) ≡ c → (if c then same_words xs ys else false) ≡ true → (a ≡ b) × (same_words xs ys ≡ true)
    by true e k = (is_equal a b e, k)
    by false e k = absurd (cc)

-- where all words are the same, each is
pub same_at : (v : ℕ → Bool) (ws : List (Vec Bit)) (x : TermReading) (ns : List TermNode) (xs ys : List Term) (k : ℕ) →
    same_words (words_under v ws xs) (words_read x ns ys) ≡ true → k < length xs → k < length ys →
    (value_at (values_of v ws) (get_or xs k no_term).0).word ≡ term_word x ns (get_or ys k no_term).0
same_at v ws x ns [] ys k h l m = absurd (omega arith)
same_at v ws x ns (a ∷ xs) [] k h l m = absurd (omega arith)
same_at v ws x ns (a ∷ xs) (b ∷ ys) zero h l m = (same_parts _ _ (words_under v ws xs) (words_read x ns ys) h).0
same_at v ws x ns (a ∷ xs) (b ∷ ys) (suc k) h l m =
    same_at v ws x ns xs ys k (same_parts _ _ (words_under v ws xs) (words_read x ns ys) h).1 (omega arith) (omega arith)

-- the words of terms are those of their readings
pub words_are : (v : ℕ → Bool) (ws : List (Vec Bit)) (x : TermReading) (ns : List TermNode) →
    ((t : ℕ) → t < length ns → (value_at (values_of v ws) t).word ≡ term_word x ns t) → (xs : List Term) →
    ((k : ℕ) (d : Term) → k < length xs → (get_or xs k d).0 < length ns) → words_under v ws xs ≡ words_read x ns xs
words_are v ws x ns f [] g = refl
words_are v ws x ns f (a ∷ xs) g =
    ap (λ z. z ∷ words_under v ws xs) (f a.0 (g 0 a (omega arith)))
    ∙ ap (λ z. term_word x ns a.0 ∷ z) (words_are v ws x ns f xs (λ k d l. g (suc k) d (omega arith)))
