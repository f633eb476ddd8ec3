-- Ties of words, bit by bit.
use Rattle.std.proofs.Common.{◌≡◌, ◌==◌, ℕ, ◌+◌, ◌*◌, ◌/◌, ◌%◌, ◌<◌, ◌≤◌, Bool, true, false, not, ◌&&◌, ◌||◌, List, length, drop, get_or, refl, ap, sym, ◌∙◌, arith}
use Rattle.std.specs.Bool.{beq}
use Rattle.std.proofs.lemmas.Bool.Decides.{nat_tests}
use Rattle.std.proofs.lemmas.List.{drop_all}
use Rattle.word_spec.specs.Words.{bit, differ}
use Rattle.gates.specs.declared.bit.Bit.{Bit}
use Rattle.gates.specs.Circuits.{bit_value}
use Rattle.word_gates.specs.Numbers.{number, digit}
use Rattle.word_gates.proofs.Words.{no_bit, number_from}

-- a test that is asked where a bit is true
abbrev pub asks : (condition test : Bool) → Bool
asks c t = not c || t

and_false : (s : Bool) → (s && false) ≡ false
and_false true = refl
and_false false = refl

pub and_true : (s : Bool) → (s && true) ≡ s
and_true true = refl
and_true false = refl

-- two clauses say that two bits are equal
pub two_clauses : (s c n x y p q e : Bool) → n ≡ not c → p ≡ not x → q ≡ not y →
    (((s && (n || (p || (y || false)))) && (n || (x || (q || false)))) && asks c e) ≡ (s && asks c (not (differ x y) && e))
two_clauses s c n x y p q e i j k =
    ap (λ z. ((s && (z || (p || (y || false)))) && (z || (x || (q || false)))) && asks c e) i
    ∙ ap (λ z. ((s && (not c || (z || (y || false)))) && (not c || (x || (q || false)))) && asks c e) j
    ∙ ap (λ z. ((s && (not c || (not x || (y || false)))) && (not c || (x || (z || false)))) && asks c e) k
    ∙ by s c x y e
  where
    by : (s c x y e : Bool) → (((s && (not c || (not x || (y || false)))) && (not c || (x || (not y || false)))) && asks c e) ≡ (s &&
        asks c (not (differ x y) && e))
    by false c x y e = refl
    by true false x y e = refl
    by true true true true e = refl
    by true true true false e = refl
    by true true false true e = refl
    by true true false false e = refl

-- one clause says that a bit is true
pub one_clause : (s c n w e : Bool) → n ≡ not c → ((s && (n || (w || false))) && asks c e) ≡ (s && asks c (w && e))
one_clause s c n w e i = ap (λ z. (s && (z || (w || false))) && asks c e) i ∙ by s c w e
  where
    by : (s c w e : Bool) → ((s && (not c || (w || false))) && asks c e) ≡ (s && asks c (w && e))
    by false c w e = refl
    by true false w e = refl
    by true true true e = refl
    by true true false e = refl

halves : (x y : Bool) (n m : ℕ) → (bit x + 2 * n == bit y + 2 * m) ≡ (not (differ x y) && (n == m))
halves true true n m = grind (arith, nat_tests)
halves true false n m = grind (arith, nat_tests)
halves false true n m = grind (arith, nat_tests)
halves false false n m = grind (arith, nat_tests)

half : (x : Bool) (n r : ℕ) → (bit x + 2 * n == r) ≡ (beq x (r % 2 == 1) && (n == r / 2))
half true n r = grind (arith, nat_tests)
half false n r = grind (arith, nat_tests)

-- what is asked of two words from a bit on is what is asked of the bit, and of those behind it
pub words_from : (v : ℕ → Bool) (a b : List Bit) (i : ℕ) → i < length a → i < length b →
    (number v (drop i a) == number v (drop i b)) ≡ (not (differ (bit_value v (get_or a i no_bit)) (bit_value v (get_or b i no_bit))) &&
    (number v (drop (i + 1) a) == number v (drop (i + 1) b)))
words_from v a b i h k =
    ap (λ z. z == number v (drop i b)) (number_from v a i (i + 1) i h refl refl)
    ∙ ap (λ z. digit v (get_or a i no_bit) + 2 * number v (drop (i + 1) a) == z) (number_from v b i (i + 1) i k refl refl)
    ∙ halves (bit_value v (get_or a i no_bit)) (bit_value v (get_or b i no_bit)) (number v (drop (i + 1) a)) (number v (drop (i + 1) b))

pub byte_from : (v : ℕ → Bool) (a : List Bit) (i r : ℕ) → i < length a →
    (number v (drop i a) == r) ≡ (beq (bit_value v (get_or a i no_bit)) (r % 2 == 1) && (number v (drop (i + 1) a) == r / 2))
byte_from v a i r h = ap (λ z. z == r) (number_from v a i (i + 1) i h refl refl) ∙ half (bit_value v (get_or a i no_bit)) (number v (drop (i + 1) a)) r

-- one more pair of bits
pub words_step : (v : ℕ → Bool) (a b : List Bit) (i : ℕ) (s c n x y p q t : Bool) → i < length a → i < length b → x ≡ bit_value v (get_or a i no_bit) →
    y ≡ bit_value v (get_or b i no_bit) →
    n ≡ not c → p ≡ not x → q ≡ not y → (s && asks c (number v (drop i a) == number v (drop i b))) ≡ t →
    (((s && (n || (p || (y || false)))) && (n || (x || (q || false)))) && asks c (number v (drop (i + 1) a) == number v (drop (i + 1) b))) ≡ t
words_step v a b i s c n x y p q t h k e f i1 i2 i3 g =
    two_clauses s c n x y p q (number v (drop (i + 1) a) == number v (drop (i + 1) b)) i1 i2 i3
    ∙ ap (λ z. s && asks c (not (differ z y) && (number v (drop (i + 1) a) == number v (drop (i + 1) b)))) e
    ∙ ap (λ z. s && asks c (not (differ (bit_value v (get_or a i no_bit)) z) && (number v (drop (i + 1) a) == number v (drop (i + 1) b)))) f
    ∙ ap (λ z. s && asks c z) (sym (words_from v a b i h k)) ∙ g

pub byte_step : (v : ℕ → Bool) (a : List Bit) (i r : ℕ) (s c n w t : Bool) → i < length a → w ≡ beq (bit_value v (get_or a i no_bit)) (r % 2 == 1) → n ≡ not c →
    (s && asks c (number v (drop i a) == r)) ≡ t → ((s && (n || (w || false))) && asks c (number v (drop (i + 1) a) == r / 2)) ≡ t
byte_step v a i r s c n w t h e i1 g =
    one_clause s c n w (number v (drop (i + 1) a) == r / 2) i1
    ∙ ap (λ z. s && asks c (z && (number v (drop (i + 1) a) == r / 2))) e
    ∙ ap (λ z. s && asks c z) (sym (byte_from v a i r h)) ∙ g

asks_true : (s c : Bool) → (s && asks c true) ≡ s
asks_true true true = refl
asks_true true false = refl
asks_true false c = refl

-- behind the last bit nothing is asked
pub words_end : (v : ℕ → Bool) (a b : List Bit) (i : ℕ) (s c t : Bool) → length a ≤ i → length b ≤ i →
    (s && asks c (number v (drop i a) == number v (drop i b))) ≡ t → s ≡ t
words_end v a b i s c t h k g =
    sym (ap (λ z. s && asks c (number v z == number v (drop i b))) (drop_all i a h) ∙ ap (λ z. s &&
    asks c (0 == number v z)) (drop_all i b k) ∙ asks_true s c) ∙ g

pub byte_end : (v : ℕ → Bool) (a : List Bit) (i r : ℕ) (s c t : Bool) → length a ≤ i → r ≡ 0 → (s && asks c (number v (drop i a) == r)) ≡ t → s ≡ t
byte_end v a i r s c t h k g =
    sym (ap (λ z. s && asks c (number v z == r)) (drop_all i a h) ∙ ap (λ z. s && asks c (0 == z)) k ∙ asks_true s c) ∙ g
