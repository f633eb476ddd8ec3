-- Arithmetic of shifts by constants and of extensions of extensions.
use Rattle.std.proofs.Common.{◌≡◌, ℕ, zero, suc, ◌+◌, ◌-◌, ◌*◌, ◌/◌, ◌%◌, ◌^◌, ◌<◌, ◌≤◌, Bool, true, false, inl, inr, refl, ap, sym, ◌∙◌, arith, min}
use Rattle.std.specs.Prelude.{if◌then◌else◌}
use Rattle.std.proofs.lemmas.Bool.Decides.{nat_tests}
use Rattle.std.proofs.lemmas.Bool.{cases_lt}
use Rattle.std.proofs.lemmas.Nat.{pow_pos, pow-add, shr-shr, shr_high, mod_below, div_below, div-add-mod'}
use Rattle.std.proofs.Math.Nat.{mod-eq_of_lt, div-one, div-eq_of_lt, pow-le-pow_right, zero-min}
use Rattle.bv_word.proofs.Bits.{all_out_left, all_out_right}
use Rattle.word_spec.specs.Words as words
use Rattle.term_dag.proofs.WordLaws.{bits_of_bits, lower_bits, upper_bits}

-- a shift by less than the width
amount : (w k : ℕ) → k < w → min k w ≡ k
amount w k h = omega arith

-- bits of the lowest bits
cut_bits : (hi lo w x : ℕ) → lo ≤ hi → hi < w → words.bits hi lo (x % 2 ^ w) ≡ words.bits hi lo x
cut_bits hi lo w x h k =
    let e : w - 1 + 1 - 0 ≡ w = omega arith in
    let z : hi + 0 ≡ hi = omega arith in
    let y : lo + 0 ≡ lo = omega arith in
    ap (λ n. words.bits hi lo (x % 2 ^ n)) (sym e) ∙ ap (λ n. words.bits hi lo (n % 2 ^ (w - 1 + 1 - 0))) (sym (div-one x))
    ∙ bits_of_bits hi lo (w - 1) 0 x h (omega arith) ∙ ap (λ n. words.bits n (lo + 0) x) z ∙ ap (λ n. words.bits hi n x) y

-- bits of a shift to the left
pub shl_bits : (hi lo w v k : ℕ) → lo ≤ hi → hi < w → k ≤ lo → words.bits hi lo (words.shl w v k) ≡ words.bits (hi - k) (lo - k) v
shl_bits hi lo w v k h l p =
    let z : v * 2 ^ k ≡ v * 2 ^ k + 0 = omega arith in
    ap (λ n. words.bits hi lo (v * 2 ^ n % 2 ^ w)) (amount w k (omega arith)) ∙ cut_bits hi lo w (v * 2 ^ k) h l
    ∙ ap (words.bits hi lo) z ∙ upper_bits hi lo k v 0 h p (pow_pos k)

part_bits : (hi lo v k : ℕ) → words.bits hi lo (v / 2 ^ k) ≡ words.bits (hi + k) (lo + k) v
part_bits hi lo v k =
    let e : k + lo ≡ lo + k = omega arith in
    let i : hi + 1 - lo ≡ hi + k + 1 - (lo + k) = omega arith in
    ap (λ z. z % 2 ^ (hi + 1 - lo)) (shr-shr v k lo) ∙ ap (λ n. v / 2 ^ n % 2 ^ (hi + 1 - lo)) e ∙ ap (λ n. v / 2 ^ (lo + k) % 2 ^ n) i

-- of one to the right
pub shr_bits : (hi lo w v k : ℕ) → k < w → words.bits hi lo (words.shr w v k) ≡ words.bits (hi + k) (lo + k) v
shr_bits hi lo w v k p = ap (λ n. words.bits hi lo (v / 2 ^ n)) (amount w k p) ∙ part_bits hi lo v k

one_less : (a b : ℕ) → 0 < a → (a - 1) * b + b ≡ a * b
one_less zero b h = absurd (omega arith)
one_less (suc a) b h = let e : suc a - 1 ≡ a = omega arith in rw e (omega arith)

-- the upper part of the greatest number is the greatest, and less a number the greatest less its part
turned_part : (a k v : ℕ) → v < a * 2 ^ k → (a * 2 ^ k - 1 - v) / 2 ^ k ≡ a - 1 - v / 2 ^ k
turned_part a k v h =
    let p = 2 ^ k in let q = v / p in let r = v % p in
    let i : r < p = mod_below v p (pow_pos k) in
    let s : v ≡ q * p + r = sym (div-add-mod' v p) in
    let l : q < a = div_below v p a (pow_pos k) h in
    let d : a ≡ q + 1 + (a - 1 - q) = omega arith in
    let e : a * p ≡ (q + 1 + (a - 1 - q)) * p = ap (λ z. z * p) d in
    let f : a * p - 1 - v ≡ (a - 1 - q) * p + (p - 1 - r) = omega arith in
    ap (λ z. z / p) f ∙ shr_high (a - 1 - q) k (p - 1 - r) (omega arith)

-- the width in two parts
two_parts : (w k : ℕ) → k ≤ w → 2 ^ w ≡ 2 ^ (w - k) * 2 ^ k
two_parts w k h = let e : w ≡ (w - k) + k = omega arith in ap (λ z. 2 ^ z) e ∙ pow-add 2 (w - k) k

-- a negative word, shifted: ones above its upper part
filled : (w k v : ℕ) → k ≤ w → v < 2 ^ w → words.complement w (words.complement w v / 2 ^ k) ≡ words.concat (w - k) (2 ^ k - 1) (v / 2 ^ k)
filled w k v h l =
    let a = 2 ^ (w - k) in
    let e = two_parts w k h in
    let f : v < a * 2 ^ k = omega arith in
    let t : words.complement w v / 2 ^ k ≡ a - 1 - v / 2 ^ k = ap (λ z. (z - 1 - v) / 2 ^ k) e ∙ turned_part a k v f in
    let q : v / 2 ^ k < a = div_below v (2 ^ k) a (pow_pos k) f in
    let o = one_less (2 ^ k) a (pow_pos k) in
    ap (words.complement w) t ∙ (let g : 2 ^ w - 1 - (a - 1 - v / 2 ^ k) ≡ (2 ^ k - 1) * a + v / 2 ^ k = omega arith in g)

-- of one to the right with the sign
pub sar_bits : (hi lo w v k : ℕ) → lo ≤ hi → k + hi < w → v < 2 ^ w → words.bits hi lo (words.sar w v k) ≡ words.bits (hi + k) (lo + k) v
sar_bits hi lo w v k h l b =
    ap (λ n. words.bits hi lo (if words.is_negative w v then words.complement w (words.complement w v / 2 ^ n) else v / 2 ^ n))
    (amount w k (omega arith)) ∙ signed (words.is_negative w v)
  where
    signed : (n : Bool) → words.bits hi lo (if n then words.complement w (words.complement w v / 2 ^ k) else v / 2 ^ k) ≡ words.bits (hi + k) (lo + k) v
    signed true =
        ap (words.bits hi lo) (filled w k v (omega arith) b) ∙ lower_bits hi lo (w - k) (2 ^ k - 1) (v / 2 ^ k) h (omega arith) ∙ part_bits hi lo v k
    signed false = part_bits hi lo v k

-- a shift by nothing
pub no_shl : (w a c : ℕ) → a < 2 ^ w → c ≡ 0 → words.shl w a c ≡ a
no_shl w a c h e = ap (λ n. a * 2 ^ min n w % 2 ^ w) e ∙ ap (λ n. a * 2 ^ n % 2 ^ w) (zero-min w) ∙ (let f : a * 1
    ≡ a = omega arith in ap (λ z. z % 2 ^ w) f) ∙ mod-eq_of_lt h

pub no_shr : (w a c : ℕ) → c ≡ 0 → words.shr w a c ≡ a
no_shr w a c e = ap (λ n. a / 2 ^ min n w) e ∙ ap (λ n. a / 2 ^ n) (zero-min w) ∙ div-one a

pub no_sar : (w a c : ℕ) → a < 2 ^ w → c ≡ 0 → words.sar w a c ≡ a
no_sar w a c h e =
    ap (λ n. if words.is_negative w a then words.complement w (words.complement w a / 2 ^ min n w) else a / 2 ^ min n w) e
    ∙ ap (λ n. if words.is_negative w a then words.complement w (words.complement w a / 2 ^ n) else a / 2 ^ n) (zero-min w) ∙ at (words.is_negative w a)
  where
    at : (b : Bool) → (if b then words.complement w (words.complement w a / 1) else a / 1) ≡ a
    at true = ap (words.complement w) (div-one (words.complement w a)) ∙ (let g : words.complement w (words.complement w a) ≡ a = omega arith in g)
    at false = div-one a

-- a shift of all bits
pub all_shl : (w a c : ℕ) → w ≤ c → 0 ≡ words.shl w a c
all_shl w a c h = sym (all_out_left a c w h)

pub all_shr : (w a c : ℕ) → a < 2 ^ w → w ≤ c → 0 ≡ words.shr w a c
all_shr w a c h l = sym (all_out_right a c w l h)

-- with the sign, it is one of all bits but the sign
pub all_sar : (w a c : ℕ) → 1 ≤ w → a < 2 ^ w → w ≤ c → words.sar w a (w - 1) ≡ words.sar w a c
all_sar w a c s h l =
    let i : min (w - 1) w ≡ w - 1 = omega arith in
    let j : min c w ≡ w = omega arith in
    ap (λ n. if words.is_negative w a then words.complement w (words.complement w a / 2 ^ n) else a / 2 ^ n) i
    ∙ at ∙ ap (λ n. if words.is_negative w a then words.complement w (words.complement w a / 2 ^ n) else a / 2 ^ n) (sym j)
  where
    half : 2 ^ w ≡ 2 * 2 ^ (w - 1)
    half = let e : w ≡ 1 + (w - 1) = omega arith in ap (λ z. 2 ^ z) e ∙ pow-add 2 1 (w - 1)

    at : (if words.is_negative w a then words.complement w (words.complement w a / 2 ^ (w - 1)) else a / 2 ^ (w - 1))
        ≡ (if words.is_negative w a then words.complement w (words.complement w a / 2 ^ w) else a / 2 ^ w)
    at =
        elim (cases_lt a (2 ^ (w - 1))) [
          | inl k ↦ (
              let b : words.is_negative w a ≡ false = grind (arith, nat_tests) in
              rw b (div-eq_of_lt k ∙ sym (div-eq_of_lt h)))
          | inr k ↦ (
              let b : words.is_negative w a ≡ true = grind (arith, nat_tests) in
              let f : words.complement w a < 2 ^ (w - 1) = omega (arith, half) in
              let g : words.complement w a < 2 ^ w = omega (arith, half) in
              rw b (ap (words.complement w) (div-eq_of_lt f ∙ sym (div-eq_of_lt g))))
        ]

half_of : (n : ℕ) → 1 ≤ n → 2 ^ n ≡ 2 * 2 ^ (n - 1)
half_of n s = let e : n ≡ 1 + (n - 1) = omega arith in ap (λ z. 2 ^ z) e ∙ pow-add 2 1 (n - 1)

-- an extension with the sign of one with zeros
pub zeros_then_sign : (n m k v : ℕ) → v < 2 ^ n → n < m → v ≡ words.sign_extend m k v
zeros_then_sign n m k v h l =
    let p : 2 ^ n ≤ 2 ^ (m - 1) = pow-le-pow_right (omega arith) (omega arith) in
    let b : words.is_negative m v ≡ false = grind (arith, nat_tests) in
    rw b refl

-- an extension with the sign of one with the sign
pub sign_then_sign : (n m k v : ℕ) → v < 2 ^ n → 1 ≤ n → n ≤ m → m ≤ k → words.sign_extend n k v ≡ words.sign_extend m k (words.sign_extend n m v)
sign_then_sign n m k v h s l r =
    let p : 2 ^ n ≤ 2 ^ m = pow-le-pow_right (omega arith) l in
    let q : 2 ^ m ≤ 2 ^ k = pow-le-pow_right (omega arith) r in
    let t : 2 ^ (n - 1) ≤ 2 ^ (m - 1) = pow-le-pow_right (omega arith) (omega arith) in
    let x = half_of n s in
    let y = half_of m (omega arith) in
    elim (cases_lt v (2 ^ (n - 1))) [
      | inl u ↦ (
          let b : words.is_negative n v ≡ false = grind (arith, nat_tests) in
          let c : words.is_negative m v ≡ false = grind (arith, nat_tests) in
          rw b (rw c refl))
      | inr u ↦ (
          let b : words.is_negative n v ≡ true = grind (arith, nat_tests) in
          let c : words.is_negative m (v + (2 ^ m - 2 ^ n)) ≡ true = grind (arith, nat_tests) in
          rw b (rw c (omega arith)))
    ]

-- the last place of a word is one of its numbers
pub last_place : (w : ℕ) → 1 ≤ w → w - 1 < 2 ^ w
last_place w s = omega (arith, below_power w)
  where
    below_power : (n : ℕ) → n < 2 ^ n
    below_power zero = omega arith
    below_power (suc n) = let h = below_power n in let e = half_of (suc n) (omega arith) in omega arith
