-- The bytes of numbers, and numbers of bytes.
use Rattle.std.proofs.Common.{◌≡◌, ◌≢◌, inl, inr, ℕ, zero, suc, ◌+◌, ◌-◌, ◌*◌, ◌/◌, ◌%◌, ◌≤◌, ◌<◌, ◌^◌, List, length, get_or, take, drop, length-drop, refl, sym, ap, ◌∙◌, arith, lit<}
use Rattle.std.specs.Prelude.{nat_lt, ◌==◌, true, false, if◌then◌else◌}
use Rattle.std.proofs.lemmas.Bool.{ne_eqb, eq-eqb, cases_eq}
use Rattle.std.specs.Int.{byte_at, bytes_low_first, bytes_high_first, to_le_bytes, to_be_bytes, w64}
use Rattle.std.proofs.lemmas.Bool.Decides.{nat_tests}
use Rattle.std.proofs.lemmas.List.{get_or-take, get_or-drop, length-take-le, length-take}
use Rattle.std.proofs.Math.Nat.{div-one, pow-suc, pow-le-pow_right}
use Rattle.std.proofs.lemmas.Nat.{pow-add, field_of, mod-pow-add, mod_low}
use Rattle.std.proofs.Math.Path.{fun_ext}
use Rattle.word_spec.specs.Words.{add, sub}
use Rattle.word_spec.specs.Memory.{Endian, Little, Big, Memory, place, byte_of, byte_in, memory_of, store, little}
use Rattle.byte_mem.specs.Puts.{IsPut, PutsTo}

-- what is asked for where the test holds is asked for there alone
agree : (i n a b m : ℕ) → (i < n → a ≡ b) → (if nat_lt i n then a else m) ≡ (if nat_lt i n then b else m)
agree i n a b m h = grind (arith, nat_tests)

-- nothing is written yet, and one more byte
pub none_put : (old : List (ℕ × ℕ)) (first : ℕ) (bytes : List ℕ) → PutsTo old first bytes 0 old
none_put old first bytes = record { each = λ x below. let none : nat_lt (sub 32 x first) 0 ≡ false = grind (arith, nat_tests) in rw none refl }

pub more_put : (old mid new : List (ℕ × ℕ)) (first i byte : ℕ) (bytes : List ℕ) → first < 2 ^ 32 → i < 2 ^ 32 → byte ≡ get_or bytes i 0 →
    PutsTo old first bytes i mid →
    IsPut mid (add 32 first i) byte new → PutsTo old first bytes (i + 1) new
more_put old mid new first i byte bytes low few is before put = record {
  each = λ x below.
      put x ∙ elim (cases_eq x (add 32 first i)) as
      (λ _. (if x == add 32 first i then byte else byte_in mid x)
      ≡ (if nat_lt (sub 32 x first) (i + 1) then get_or bytes (sub 32 x first) 0 else byte_in old x)) [
        | inl at ↦
            let t : (x == add 32 first i) ≡ true = eq-eqb x (add 32 first i) at in
            let place : sub 32 x first ≡ i = omega arith in
            let within : nat_lt (sub 32 x first) (i + 1) ≡ true = grind (arith, nat_tests) in
            rw (t, within) (is ∙ ap (λ k. get_or bytes k 0) (sym place))
        | inr ne ↦
            let f : (x == add 32 first i) ≡ false = ne_eqb x (add 32 first i) ne in
            let other : sub 32 x first ≢ i = (λ h. ne (omega arith)) in
            let same : nat_lt (sub 32 x first) (i + 1) ≡ nat_lt (sub 32 x first) i = grind (arith, nat_tests) in
            rw (f, same) (before.each x below)
      ];
}

-- the memory after a write of the bytes of a number
pub stores : (e : Endian) (n : ℕ) (old : List (ℕ × ℕ)) (first v : ℕ) (bytes : List ℕ) (new : List (ℕ × ℕ)) → length bytes ≡ n →
    ((i : ℕ) → i < n → get_or bytes i 0 ≡ byte_of e n v i) → PutsTo old first bytes (length bytes) new → memory_of new ≡ store e n (memory_of old) first v
stores e n old first v bytes new len each p = fun_ext (λ x.
    let at : sub 32 (x % 2 ^ 32) first ≡ sub 32 x first = omega arith in
    let i = sub 32 x first in
    p.each (x % 2 ^ 32) (omega arith)
    ∙ ap (λ k. if nat_lt k (length bytes) then get_or bytes k 0 else memory_of old x) at
    ∙ ap (λ k. if nat_lt i k then get_or bytes i 0 else memory_of old x) len
    ∙ agree i n _ _ _ (each i))

-- byte i of a number
byte_at-is : (i v : ℕ) → byte_at i v ≡ v / 256 ^ i % 256
byte_at-is zero v = ap (λ n. n % 256) (sym (div-one v))
byte_at-is (suc i) v = refl

pub low_first : (j i k v : ℕ) → i < k → get_or (bytes_low_first j k v) i 0 ≡ v / 256 ^ (j + i) % 256
low_first j i zero v l = absurd (omega arith)
low_first j zero (suc k) v l = let e : j + zero ≡ j = omega arith in rw e (byte_at-is j v)
low_first j (suc i) (suc k) v l = let e : j + suc i ≡ suc j + i = omega arith in rw e (low_first (suc j) i k v (omega arith))

pub high_first : (i k v : ℕ) → i < k → get_or (bytes_high_first k v) i 0 ≡ v / 256 ^ (k - 1 - i) % 256
high_first i zero v l = absurd (omega arith)
high_first zero (suc k) v l = let e : suc k - 1 - zero ≡ k = omega arith in rw e (byte_at-is k v)
high_first (suc i) (suc k) v l = let e : suc k - 1 - suc i ≡ k - 1 - i = omega arith in rw e (high_first i k v (omega arith))

-- the power of one more byte, and the highest that is needed
pub next_power : (i : ℕ) → 256 ^ (i + 1) ≡ 256 ^ i * 256
next_power i = let e : i + 1 ≡ suc i = omega arith in rw e (pow-suc 256 i)

pub low_power : (i : ℕ) → i < 8 → 256 ^ i ≤ 256 ^ 7
low_power i l = let h : i ≤ 7 = omega arith in pow-le-pow_right (lit< tt) h

pub power : (n : ℕ) → 256 ^ n ≡ 2 ^ (8 * n)
power zero = refl
power (suc n) =
    let e : 8 * suc n ≡ 8 * n + 8 = omega arith in
    pow-suc 256 n ∙ ap (λ p. p * 256) (power n) ∙ sym (pow-add 2 (8 * n) 8) ∙ ap (λ k. 2 ^ k) (sym e)

-- one more byte below those that were read
pub lower : (number byte i t : ℕ) (f : ℕ → ℕ) → 0 < i → byte ≡ f (i - 1) → number * 256 ^ i + little i f ≡ t →
    (number * 256 + byte) * 256 ^ (i - 1) + little (i - 1) f ≡ t
lower number byte zero t f some b e = absurd (omega arith)
lower number byte (suc i) t f some b e =
    let k : suc i - 1 ≡ i = omega arith in
    let p = pow-suc 256 i in
    let at = rw k at b in
    let whole : number * (256 ^ i * 256) + (little i f + f i * 256 ^ i) ≡ t = rw p at e in
    rw (k, at) (omega arith)

pub lower_below : (number byte n i : ℕ) → 0 < i → i ≤ n → byte < 256 → number < 256 ^ (n - i) → number * 256 + byte < 256 ^ (n - (i - 1))
lower_below number byte n i some few small h =
    let k : n - (i - 1) ≡ n - i + 1 = omega arith in
    rw k (omega (arith, next_power (n - i)))

-- the bytes of a number in 8 bytes, the lowest first and the highest first
pub stores_low : (n : ℕ) (old : List (ℕ × ℕ)) (first v : ℕ) (bytes : List ℕ) (new : List (ℕ × ℕ)) → n ≤ 8 → bytes ≡ to_le_bytes w64 v →
    PutsTo old first (take n bytes) (length (take n bytes)) new → memory_of new ≡ store Little n (memory_of old) first v
stores_low n old first v bytes new few is p =
    stores Little n old first v (take n bytes) new (length-take-le n bytes (let len = ap length is in omega arith))
    (λ i l. get_or-take n bytes i 0 l ∙ ap (λ b. get_or b i 0) is ∙ low_first 0 i 8 v (omega arith)
    ∙ ap (λ k. v / 256 ^ k % 256) (let z : 0 + i ≡ i = omega arith in z))
    p

pub stores_high : (n : ℕ) (old : List (ℕ × ℕ)) (first v : ℕ) (bytes : List ℕ) (new : List (ℕ × ℕ)) → n ≤ 8 → bytes ≡ to_be_bytes w64 v →
    PutsTo old first (take (8 - (8 - n)) (drop (8 - n) bytes)) (length (take (8 - (8 - n)) (drop (8 - n) bytes))) new →
    memory_of new ≡ store Big n (memory_of old) first v
stores_high n old first v bytes new few is p =
    let len = ap length is in
    stores Big n old first v _ new
    (simp (length-take, length-drop) (omega arith))
    (λ i l. get_or-take (8 - (8 - n)) (drop (8 - n) bytes) i 0 (omega arith) ∙ get_or-drop (8 - n) bytes i 0
    ∙ ap (λ b. get_or b (8 - n + i) 0) is ∙ high_first (8 - n + i) 8 v (omega arith)
    ∙ ap (λ k. v / 256 ^ k % 256) (let z : 8 - 1 - (8 - n + i) ≡ n - 1 - i = omega arith in z))
    p

place_below : (e : Endian) (n i : ℕ) → i < n → place e n i < n
place_below Little n i l = l
place_below Big n i l = omega arith

byte_cut : (n k v : ℕ) → k < n → v % 2 ^ (8 * n) / 256 ^ k % 256 ≡ v / 256 ^ k % 256
byte_cut n k v l =
    let above = 8 * (n - (k + 1)) in
    let e : 8 * n ≡ above + 8 + 8 * k = omega arith in
    let rest = v / 2 ^ (8 * k) in
    ap (λ t. v % 2 ^ t / 256 ^ k % 256) e ∙ ap (λ p. v % 2 ^ (above + 8 + 8 * k) / p % 256) (power k)
    ∙ ap (λ x. x % 256) (field_of v (above + 8) (8 * k)) ∙ ap (λ x. x % 256) (mod-pow-add rest above 8)
    ∙ mod_low (rest / 2 ^ 8 % 2 ^ above) 8 (rest % 2 ^ 8) (omega arith) ∙ sym (ap (λ p. v / p % 256) (power k))

-- a store reads the low bytes of its number alone
pub store_cut : (e : Endian) (n : ℕ) (m : Memory) (a v : ℕ) → store e n m a (v % 2 ^ (8 * n)) ≡ store e n m a v
store_cut e n m a v = fun_ext (λ x. agree (sub 32 x a) n _ _ (m x) (λ l. byte_cut n (place e n (sub 32 x a)) v (place_below e n (sub 32 x a) l)))
