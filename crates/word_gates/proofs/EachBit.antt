-- Operators on each bit, the lowest first.
use Rattle.std.proofs.Common.{◌≡◌, ℕ, suc, zero, ◌+◌, ◌*◌, ◌^◌, ◌<◌, ◌≤◌, Bool, true, false, List, [], ◌∷◌, ◌++◌, length, get_or, refl, ◌∙◌, ap, arith, ◌&&◌, ◌||◌, drop, min, ◌/◌, ◌%◌}
use Rattle.std.proofs.lemmas.List.{drop_all, drop_more}
use Rattle.word_spec.specs.Words.{bit, differ}
use Rattle.gates.specs.declared.bit.Bit.{Bit}
use Rattle.gates.specs.Circuits.{bit_value}
use Rattle.word_gates.specs.Numbers.{number, digit}
use Rattle.std.specs.Prelude.{bit_and, bit_or, bit_xor, max}
use Rattle.std.specs.Int.{bit_at}
use Rattle.std.proofs.lemmas.Nat.Bits.{bit_at_and, bit_at_or, bit_at_xor, bit_at_lowest, bit_at-suc, same_from_bits}
use Rattle.word_gates.proofs.Words.{number_push_at, pow_more, no_bit}

bit_small : (x : Bool) → bit x ≤ 1
bit_small true = omega arith
bit_small false = omega arith

low : (x : Bool) (m : ℕ) → bit_at (bit x + 2 * m) 0 ≡ bit x
low x m = let s = bit_small x in let e : (bit x + 2 * m) % 2 ≡ bit x = omega arith in bit_at_lowest (bit x + 2 * m) ∙ e

high : (x : Bool) (m i : ℕ) → bit_at (bit x + 2 * m) (suc i) ≡ bit_at m i
high x m i = let s = bit_small x in let e : (bit x + 2 * m) / 2 ≡ m = omega arith in bit_at-suc (bit x + 2 * m) i ∙ ap (λ t. bit_at t i) e

and_low : (x y : Bool) → min (bit x) (bit y) ≡ bit (x && y)
and_low true true = refl
and_low true false = refl
and_low false true = refl
and_low false false = refl

and_bits : (x y : Bool) (m n i : ℕ) → bit_at (bit_and (bit x + 2 * m) (bit y + 2 * n)) i ≡ bit_at (bit (x && y) + 2 * bit_and m n) i
and_bits x y m n zero = rw (bit_at_and, low x m, low y n, low (x && y) (bit_and m n)) (and_low x y)
and_bits x y m n (suc i) = rw (bit_at_and, high x m i, high y n i, high (x && y) (bit_and m n) i, bit_at_and) refl

pub and_place : (x y : Bool) (m n : ℕ) → bit_and (bit x + 2 * m) (bit y + 2 * n) ≡ bit (x && y) + 2 * bit_and m n
and_place x y m n = same_from_bits _ _ (and_bits x y m n)

or_low : (x y : Bool) → max (bit x) (bit y) ≡ bit (x || y)
or_low true true = refl
or_low true false = refl
or_low false true = refl
or_low false false = refl

or_bits : (x y : Bool) (m n i : ℕ) → bit_at (bit_or (bit x + 2 * m) (bit y + 2 * n)) i ≡ bit_at (bit (x || y) + 2 * bit_or m n) i
or_bits x y m n zero = rw (bit_at_or, low x m, low y n, low (x || y) (bit_or m n)) (or_low x y)
or_bits x y m n (suc i) = rw (bit_at_or, high x m i, high y n i, high (x || y) (bit_or m n) i, bit_at_or) refl

pub or_place : (x y : Bool) (m n : ℕ) → bit_or (bit x + 2 * m) (bit y + 2 * n) ≡ bit (x || y) + 2 * bit_or m n
or_place x y m n = same_from_bits _ _ (or_bits x y m n)

xor_low : (x y : Bool) → (bit x + bit y) % 2 ≡ bit (differ x y)
xor_low true true = refl
xor_low true false = refl
xor_low false true = refl
xor_low false false = refl

xor_bits : (x y : Bool) (m n i : ℕ) → bit_at (bit_xor (bit x + 2 * m) (bit y + 2 * n)) i ≡ bit_at (bit (differ x y) + 2 * bit_xor m n) i
xor_bits x y m n zero = rw (bit_at_xor, low x m, low y n, low (differ x y) (bit_xor m n)) (xor_low x y)
xor_bits x y m n (suc i) = rw (bit_at_xor, high x m i, high y n i, high (differ x y) (bit_xor m n) i, bit_at_xor) refl

pub xor_place : (x y : Bool) (m n : ℕ) → bit_xor (bit x + 2 * m) (bit y + 2 * n) ≡ bit (differ x y) + 2 * bit_xor m n
xor_place x y m n = same_from_bits _ _ (xor_bits x y m n)

-- the bits so far, and what is left to do
step : (f : ℕ → ℕ → ℕ) (g : Bool → Bool → Bool) → ((x y : Bool) (m n : ℕ) → f (bit x + 2 * m) (bit y + 2 * n) ≡ bit (g x y) + 2 * f m n) →
    (v : ℕ → Bool) (bs : List Bit) (z : Bit) (m : ℕ) (a b : List Bit) (i : ℕ) → length bs ≡ i → i < length a → i < length b →
    bit_value v z ≡ g (bit_value v (get_or a i no_bit)) (bit_value v (get_or b i no_bit)) →
    number v bs + 2 ^ i * f (number v (drop i a)) (number v (drop i b)) ≡ m →
    number v (bs ++ z ∷ []) + 2 ^ (i + 1) * f (number v (drop (i + 1) a)) (number v (drop (i + 1) b)) ≡ m
step f g law v bs z m a b i l ha hb e h =
    let x = bit_value v (get_or a i no_bit) in
    let y = bit_value v (get_or b i no_bit) in
    let r = f (number v (drop (i + 1) a)) (number v (drop (i + 1) b)) in
    let da : number v (drop i a) ≡ bit x + 2 * number v (drop (i + 1) a) = ap (number v) (drop_more a i no_bit ha) in
    let db : number v (drop i b) ≡ bit y + 2 * number v (drop (i + 1) b) = ap (number v) (drop_more b i no_bit hb) in
    let k : number v bs + 2 ^ i * (bit (g x y) + 2 * r) ≡ m = rw (da, db, law x y (number v (drop (i + 1) a)) (number v (drop (i + 1) b))) at h in
    let d : digit v z ≡ bit (g x y) = ap bit e in
    rw (number_push_at v bs z i l, d, pow_more i) (omega (arith, k))

whole : (f : ℕ → ℕ → ℕ) → f 0 0 ≡ 0 → (v : ℕ → Bool) (bs a b : List Bit) (i m : ℕ) → length a ≤ i → length b ≤ i →
    number v bs + 2 ^ i * f (number v (drop i a)) (number v (drop i b)) ≡ m → number v bs ≡ m
whole f z v bs a b i m ha hb h =
    let da : number v (drop i a) ≡ 0 = ap (number v) (drop_all i a ha) in
    let db : number v (drop i b) ≡ 0 = ap (number v) (drop_all i b hb) in
    let k : number v bs + 2 ^ i * 0 ≡ m = rw (da, db, z) at h in
    omega arith

-- before the first bit
none : (f : ℕ → ℕ → ℕ) (v : ℕ → Bool) (bs a b : List Bit) → bs ≡ [] →
    number v bs + 2 ^ 0 * f (number v (drop 0 a)) (number v (drop 0 b)) ≡ f (number v a) (number v b)
none f v bs a b e = let z : number v bs ≡ 0 = ap (number v) e in rw z (omega arith)

pub and_none : (v : ℕ → Bool) (bs a b : List Bit) → bs ≡ [] →
    number v bs + 2 ^ 0 * bit_and (number v (drop 0 a)) (number v (drop 0 b)) ≡ bit_and (number v a) (number v b)
and_none = none bit_and

pub and_step : (v : ℕ → Bool) (bs : List Bit) (z : Bit) (m : ℕ) (a b : List Bit) (i : ℕ) → length bs ≡ i → i < length a → i < length b →
    bit_value v z ≡ (bit_value v (get_or a i no_bit) && bit_value v (get_or b i no_bit)) →
    number v bs + 2 ^ i * bit_and (number v (drop i a)) (number v (drop i b)) ≡ m →
    number v (bs ++ z ∷ []) + 2 ^ (i + 1) * bit_and (number v (drop (i + 1) a)) (number v (drop (i + 1) b)) ≡ m
and_step = step bit_and (λ x y. x && y) and_place

pub and_whole : (v : ℕ → Bool) (bs a b : List Bit) (i m : ℕ) → length a ≤ i → length b ≤ i →
    number v bs + 2 ^ i * bit_and (number v (drop i a)) (number v (drop i b)) ≡ m → number v bs ≡ m
and_whole = whole bit_and refl

pub or_none : (v : ℕ → Bool) (bs a b : List Bit) → bs ≡ [] → number v bs + 2 ^ 0 * bit_or (number v (drop 0 a)) (number v (drop 0 b))
    ≡ bit_or (number v a) (number v b)
or_none = none bit_or

pub or_step : (v : ℕ → Bool) (bs : List Bit) (z : Bit) (m : ℕ) (a b : List Bit) (i : ℕ) → length bs ≡ i → i < length a → i < length b →
    bit_value v z ≡ (bit_value v (get_or a i no_bit) || bit_value v (get_or b i no_bit)) →
    number v bs + 2 ^ i * bit_or (number v (drop i a)) (number v (drop i b)) ≡ m →
    number v (bs ++ z ∷ []) + 2 ^ (i + 1) * bit_or (number v (drop (i + 1) a)) (number v (drop (i + 1) b)) ≡ m
or_step = step bit_or (λ x y. x || y) or_place

pub or_whole : (v : ℕ → Bool) (bs a b : List Bit) (i m : ℕ) → length a ≤ i → length b ≤ i →
    number v bs + 2 ^ i * bit_or (number v (drop i a)) (number v (drop i b)) ≡ m → number v bs ≡ m
or_whole = whole bit_or refl

pub xor_none : (v : ℕ → Bool) (bs a b : List Bit) → bs ≡ [] →
    number v bs + 2 ^ 0 * bit_xor (number v (drop 0 a)) (number v (drop 0 b)) ≡ bit_xor (number v a) (number v b)
xor_none = none bit_xor

pub xor_step : (v : ℕ → Bool) (bs : List Bit) (z : Bit) (m : ℕ) (a b : List Bit) (i : ℕ) → length bs ≡ i → i < length a → i < length b →
    bit_value v z ≡ (differ (bit_value v (get_or a i no_bit)) (bit_value v (get_or b i no_bit))) →
    number v bs + 2 ^ i * bit_xor (number v (drop i a)) (number v (drop i b)) ≡ m →
    number v (bs ++ z ∷ []) + 2 ^ (i + 1) * bit_xor (number v (drop (i + 1) a)) (number v (drop (i + 1) b)) ≡ m
xor_step = step bit_xor (differ) xor_place

pub xor_whole : (v : ℕ → Bool) (bs a b : List Bit) (i m : ℕ) → length a ≤ i → length b ≤ i →
    number v bs + 2 ^ i * bit_xor (number v (drop i a)) (number v (drop i b)) ≡ m → number v bs ≡ m
xor_whole = whole bit_xor refl
