-- Words that are equal or differ, one by one.
use Rattle.std.proofs.Common.{◌≡◌, ◌==◌, ℕ, ◌+◌, ◌<◌, ◌≤◌, Bool, true, false, not, ◌&&◌, ◌||◌, List, [], ◌∷◌, ◌++◌, length, take, drop, get_or, refl, ap, sym, ◌∙◌, arith}
use Rattle.std.specs.Bool.{beq}
use Rattle.std.specs.Global.{Vec}
use Rattle.std.specs.Prelude.{if◌then◌else◌, sum_by}
use Rattle.std.proofs.lemmas.List.{drop_more, drop_all, take_more}
use Rattle.std.proofs.lemmas.List.Sums.{sum_by-append, sum_by-cons}
use Rattle.word_spec.specs.Words.{differ}
use Rattle.term_spec.specs.Terms.{TermNode, node_at, value_at, width_of}
use Rattle.gates.specs.declared.bit.Bit.{Bit}
use Rattle.gates.specs.Circuits.{any_of, bit_value}
use Rattle.word_gates.specs.Numbers.{number}
use Rattle.word_gates.proofs.Words.{no_bit}
use Rattle.term_dag.specs.declared.nodes.Term.{Term}
use Rattle.pair_spec.specs.PairTerms.{same_words}
use Rattle.bit_blast.specs.BitWords.{values_of}
use Rattle.bit_blast.proofs.TiedBits.{words_from}
use Rattle.pair_blast.specs.PairWords.{bits_in, words_under}

-- what a read past the end would give
abbrev pub no_term : Term
no_term = record { 0 = 0 }

-- ---- two bits

pub equal_alone : (v : ℕ → Bool) (s : Bool) (x y : Bit) → x ≡ y → s ≡ (s && beq (bit_value v x) (bit_value v y))
equal_alone v s x y e = by s (bit_value v y) ∙ ap (λ z. s && beq (bit_value v z) (bit_value v y)) (sym e)
  where
    by : (s b : Bool) → s ≡ (s && beq b b)
    by false b = refl
    by true true = refl
    by true false = refl

pub two_clauses : (s x y n m t u : Bool) → n ≡ not x → m ≡ not y → t ≡ (s && (n || (y || false))) → u ≡ (t && (x || (m || false))) → u ≡ (s && beq x y)
two_clauses s x y n m t u e f g h =
    h ∙ ap (λ z. z && (x || (m || false))) (g ∙ ap (λ z. s && (z || (y || false))) e)
    ∙ ap (λ z. (s && (not x || (y || false))) && (x || (z || false))) f ∙ by s x y
  where
    by : (s x y : Bool) → ((s && (not x || (y || false))) && (x || (not y || false))) ≡ (s && beq x y)
    by false x y = refl
    by true true true = refl
    by true true false = refl
    by true false true = refl
    by true false false = refl

-- ---- two words, bit by bit

beq_is : (x y : Bool) → beq x y ≡ not (differ x y)
beq_is true true = refl
beq_is true false = refl
beq_is false true = refl
beq_is false false = refl

and_assoc : (a b c : Bool) → ((a && b) && c) ≡ (a && (b && c))
and_assoc true b c = refl
and_assoc false b c = refl

pub bits_step : (v : ℕ → Bool) (a b : List Bit) (i : ℕ) (x y : Bit) (s t u : Bool) → i < length a → i < length b → x ≡ get_or a i no_bit →
    y ≡ get_or b i no_bit → t ≡ (s && beq (bit_value v x) (bit_value v y)) → (s && (number v (drop i a) == number v (drop i b))) ≡ u →
    (t && (number v (drop (i + 1) a) == number v (drop (i + 1) b))) ≡ u
bits_step v a b i x y s t u k l e f g h =
    ap (λ z. z && (number v (drop (i + 1) a) == number v (drop (i + 1) b))) g
    ∙ and_assoc s (beq (bit_value v x) (bit_value v y)) (number v (drop (i + 1) a) == number v (drop (i + 1) b))
    ∙ ap (λ z. s && (z && (number v (drop (i + 1) a) == number v (drop (i + 1) b)))) (beq_is (bit_value v x) (bit_value v y))
    ∙ ap (λ z. s && (not (differ (bit_value v z) (bit_value v y)) && (number v (drop (i + 1) a) == number v (drop (i + 1) b)))) e
    ∙ ap (λ z. s && (not (differ (bit_value v (get_or a i no_bit)) (bit_value v z)) && (number v (drop (i + 1) a) == number v (drop (i + 1) b)))) f
    ∙ ap (λ z. s && z) (sym (words_from v a b i k l)) ∙ h

and_true : (s : Bool) → (s && true) ≡ s
and_true true = refl
and_true false = refl

pub bits_end : (v : ℕ → Bool) (a b : List Bit) (i : ℕ) (s u : Bool) → length a ≤ i → length b ≤ i →
    (s && (number v (drop i a) == number v (drop i b))) ≡ u → s ≡ u
bits_end v a b i s u k l h =
    sym (ap (λ z. s && (number v z == number v (drop i b))) (drop_all i a k) ∙ ap (λ z. s && (0 == number v z)) (drop_all i b l) ∙ and_true s) ∙ h

-- ---- words of terms

same_step : (s t : Bool) (a b : ℕ) (xs ys : List ℕ) → t ≡ (s && (a == b)) → (t && same_words xs ys) ≡ (s && same_words (a ∷ xs) (b ∷ ys))
same_step s t a b xs ys e = ap (λ z. z && same_words xs ys) e ∙ by s (a == b)
  where
    by : (s c : Bool) → ((s && c) && same_words xs ys) ≡ (s && (if c then same_words xs ys else false))
    by false c = refl
    by true true = refl
    by true false = refl

-- the words from a place on
pub words_from_place : (v : ℕ → Bool) (ws : List (Vec Bit)) (xs : List Term) (i a : ℕ) → i < length xs →
    a ≡ (value_at (values_of v ws) (get_or xs i no_term).0).word → words_under v ws (drop i xs) ≡ a ∷ words_under v ws (drop (i + 1) xs)
words_from_place v ws xs i a l e =
    ap (words_under v ws) (drop_more xs i no_term l) ∙ ap (λ z. z ∷ words_under v ws (drop (i + 1) xs)) (sym e)

pub entries_step : (v : ℕ → Bool) (ws vs : List (Vec Bit)) (xs ys : List Term) (i a b : ℕ) (s t u : Bool) → i < length xs → i < length ys →
    a ≡ (value_at (values_of v ws) (get_or xs i no_term).0).word → b ≡ (value_at (values_of v vs) (get_or ys i no_term).0).word →
    t ≡ (s && (a == b)) → (s && same_words (words_under v ws (drop i xs)) (words_under v vs (drop i ys))) ≡ u →
    (t && same_words (words_under v ws (drop (i + 1) xs)) (words_under v vs (drop (i + 1) ys))) ≡ u
entries_step v ws vs xs ys i a b s t u k l e f g h =
    same_step s t a b (words_under v ws (drop (i + 1) xs)) (words_under v vs (drop (i + 1) ys)) g
    ∙ sym (ap (λ z. s && same_words z (words_under v vs (drop i ys))) (words_from_place v ws xs i a k e)
    ∙ ap (λ z. s && same_words (a ∷ words_under v ws (drop (i + 1) xs)) z) (words_from_place v vs ys i b l f)) ∙ h

pub entries_end : (v : ℕ → Bool) (ws vs : List (Vec Bit)) (xs ys : List Term) (i : ℕ) (s u : Bool) → length xs ≤ i → length ys ≤ i →
    (s && same_words (words_under v ws (drop i xs)) (words_under v vs (drop i ys))) ≡ u → s ≡ u
entries_end v ws vs xs ys i s u k l h =
    sym (ap (λ z. s && same_words (words_under v ws z) (words_under v vs (drop i ys))) (drop_all i xs k)
    ∙ ap (λ z. s && same_words [] (words_under v vs z)) (drop_all i ys l) ∙ and_true s) ∙ h

-- ---- words that differ

any_push : (v : ℕ → Bool) (bs : List Bit) (b : Bit) → any_of v (bs ++ b ∷ []) ≡ (any_of v bs || bit_value v b)
any_push v [] b = by (bit_value v b)
  where
    by : (c : Bool) → (c || false) ≡ (false || c)
    by true = refl
    by false = refl
any_push v (x ∷ bs) b = ap (λ z. bit_value v x || z) (any_push v bs b) ∙ by (bit_value v x) (any_of v bs) (bit_value v b)
  where
    by : (p q r : Bool) → (p || (q || r)) ≡ ((p || q) || r)
    by true q r = refl
    by false q r = refl

pub differ_step : (v : ℕ → Bool) (ws vs : List (Vec Bit)) (xs ys : List Term) (i a b : ℕ) (bs cs : List Bit) (d e : Bit) (u : Bool) → i < length xs →
    i < length ys → a ≡ (value_at (values_of v ws) (get_or xs i no_term).0).word → b ≡ (value_at (values_of v vs) (get_or ys i no_term).0).word →
    bit_value v e ≡ (a == b) → bit_value v d ≡ not (bit_value v e) → cs ≡ bs ++ d ∷ [] →
    (any_of v bs || not (same_words (words_under v ws (drop i xs)) (words_under v vs (drop i ys)))) ≡ u →
    (any_of v cs || not (same_words (words_under v ws (drop (i + 1) xs)) (words_under v vs (drop (i + 1) ys)))) ≡ u
differ_step v ws vs xs ys i a b bs cs d e u k l p q f g c h =
    let rest = same_words (words_under v ws (drop (i + 1) xs)) (words_under v vs (drop (i + 1) ys)) in
    ap (λ z. any_of v z || not rest) c ∙ ap (λ z. z || not rest) (any_push v bs d)
    ∙ ap (λ z. (any_of v bs || z) || not rest) (g ∙ ap not f) ∙ by (any_of v bs) (a == b) rest
    ∙ sym (ap (λ z. any_of v bs || not (same_words z (words_under v vs (drop i ys)))) (words_from_place v ws xs i a k p)
    ∙ ap (λ z. any_of v bs || not (same_words (a ∷ words_under v ws (drop (i + 1) xs)) z)) (words_from_place v vs ys i b l q)) ∙ h
  where
    by : (r c s : Bool) → ((r || not c) || not s) ≡ (r || not (if c then s else false))
    by true c s = refl
    by false true s = refl
    by false false s = refl

or_false : (s : Bool) → (s || false) ≡ s
or_false true = refl
or_false false = refl

pub differ_end : (v : ℕ → Bool) (ws vs : List (Vec Bit)) (xs ys : List Term) (i : ℕ) (s u : Bool) → length xs ≤ i → length ys ≤ i →
    (s || not (same_words (words_under v ws (drop i xs)) (words_under v vs (drop i ys)))) ≡ u → s ≡ u
differ_end v ws vs xs ys i s u k l h =
    sym (ap (λ z. s || not (same_words (words_under v ws z) (words_under v vs (drop i ys)))) (drop_all i xs k)
    ∙ ap (λ z. s || not (same_words [] (words_under v vs z))) (drop_all i ys l) ∙ or_false s) ∙ h

-- the bits of one more term
pub bits_more : (nodes : List TermNode) (xs : List Term) (i : ℕ) → i < length xs →
    bits_in nodes (take (i + 1) xs) ≡ bits_in nodes (take i xs) + width_of (node_at nodes (get_or xs i no_term).0)
bits_more nodes xs i l =
    let f : Term → ℕ = λ t. width_of (node_at nodes t.0) in
    ap (sum_by f) (take_more xs i no_term l) ∙ grind (arith, sum_by-append f (take i xs) (get_or xs i no_term ∷ []), sum_by-cons f (get_or xs i no_term) [])
