-- When a constant stands for the reciprocal of a divisor, and what then a product with it is.
use Rattle.std.proofs.Common.{◌≡◌, ℕ, zero, suc, ◌+◌, ◌-◌, ◌*◌, ◌/◌, ◌%◌, ◌^◌, ◌<◌, ◌≤◌, ◌==◌, Bool, true, false, cond, refl, ap, sym, ◌∙◌, arith}
use Rattle.std.proofs.lemmas.Nat.{div-add-mod', mod_below, mod-pow-add, mod-mul-add, mul-mod, mul-mod_second, pow_below, pow_pos, pow-add}
use Rattle.std.proofs.Math.Nat.{
  add-mod_right,
  add-mul-mod_self_right,
  lt_of_mul-lt-mul_right,
  mod-add-mod,
  mod-eq_of_lt,
  mul-le-mul_right,
  mul-lt-mul_of_pos_left,
  mul-lt-mul_of_pos_right,
  pow-le-pow_right,
}
use Rattle.std.proofs.Math.Arith.{digits_div}
use Rattle.std.proofs.lemmas.Bool.Decides.{nat_tests}
use Rattle.word_spec.specs.Words.{sub, mul, concat, word, udiv, is_negative, magnitude, sign_extend}
use Rattle.word_gates.specs.Numbers.{turned}
use Rattle.word_gates.proofs.Words.{half_pow}
use Rattle.term_dag.proofs.Reciprocals.{quotient_of_product}
use Rattle.bit_blast.specs.Reciprocals.{IsReciprocal}

-- ---- the search for a divisor

-- the powers that a word of 64 bits holds
power : (k : ℕ) → k < 64 → 1 * 2 ^ k % 18446744073709551616 ≡ 2 ^ k
power k h =
    let l : 2 ^ k < 2 ^ 64 = pow_below k 64 h in
    let m : 1 * 2 ^ k < 18446744073709551616 = omega (arith, l) in
    mod-eq_of_lt m ∙ omega arith

-- The least number with which a constant is above a power: the product is above it by what the power's remainder leaves of the constant.
least : (m d p q r : ℕ) → p ≡ q * m + r → r < m → d ≡ q + 1 → p < m * d
least m d p q r e l f =
    let g : m * d ≡ m * (q + 1) = ap (λ z. m * z) f in
    omega arith

most : (m d p q r : ℕ) → p ≡ q * m + r → r < m → d ≡ q + 1 → m * d - p ≡ m - r
most m d p q r e l f =
    let g : m * d ≡ m * (q + 1) = ap (λ z. m * z) f in
    omega arith

-- the tests on words of 64 bits
pub reciprocal_found : (m b p : ℕ) → 1 ≤ m → 12 < b → b ≤ p → p < 64 →
    1 * 2 ^ p % 18446744073709551616 / m + 1 < 1 * 2 ^ (b - 1 - 12) % 18446744073709551616 →
    m - 1 * 2 ^ p % 18446744073709551616 % m < 1 * 2 ^ (p + 1 - b) % 18446744073709551616 →
    IsReciprocal m (1 * 2 ^ p % 18446744073709551616 / m + 1) (b - 1) p
reciprocal_found m b p s t l f x y =
    let e = power p f in
    let x' : 2 ^ p / m + 1 < 2 ^ (b - 1 - 12) = rw (e, power (b - 1 - 12) (omega arith)) at x in
    let y' : m - 2 ^ p % m < 2 ^ (p + 1 - b) = rw (e, power (p + 1 - b) (omega arith)) at y in
    let w : 2 ^ p ≡ 2 ^ p / m * m + 2 ^ p % m = sym (div-add-mod' (2 ^ p) m) in
    let r : 2 ^ p % m < m = mod_below (2 ^ p) m (omega arith) in
    let k : 2 ^ (b - 1 - 12) ≤ 2 ^ (b - 1) = pow-le-pow_right (omega arith) (omega arith) in
    let g : m * (2 ^ p / m + 1) - 2 ^ p ≡ m - 2 ^ p % m = most m _ (2 ^ p) _ _ w r refl in
    let j : p - (b - 1) ≡ p + 1 - b = omega arith in
    let h : IsReciprocal m (2 ^ p / m + 1) (b - 1) p = record {
      order = omega arith;
      least = least m _ (2 ^ p) _ _ w r refl;
      most = rw (g, j) y';
      below = omega arith;
    } in
    rw e h

-- a divisor is not 0
pub divides : {m d n p : ℕ} → IsReciprocal m d n p → 1 ≤ d
divides {d = zero} {p = p} r = let o = pow_pos p in let l = r.least in absurd (omega arith)
divides {d = suc d} r = omega arith

-- a divisor as a signed word is not below 0
pub divisor_fits : {m d p : ℕ} (b : ℕ) → 1 ≤ b → IsReciprocal m d (b - 1) p → d < 2 ^ b
divisor_fits b o r = let k : 2 ^ (b - 1) ≤ 2 ^ b = pow-le-pow_right (omega arith) (omega arith) in omega (arith, r.below)

-- ---- products with a reciprocal

-- from the place on the bits are the quotient
quotient_at : (n p x m d : ℕ) → x ≤ 2 ^ n → IsReciprocal m d n p → x * m / 2 ^ p ≡ x / d
quotient_at n p x m d b r =
    let e = m * d - 2 ^ p in
    let s : n + (p - n) ≡ p = omega (arith, r.order) in
    let t : 2 ^ n * 2 ^ (p - n) ≡ 2 ^ p = sym (pow-add 2 n (p - n)) ∙ ap (λ k. 2 ^ k) s in
    let f : x * e ≤ 2 ^ n * e = mul-le-mul_right e b in
    let g : 2 ^ n * e < 2 ^ n * 2 ^ (p - n) = mul-lt-mul_of_pos_left r.most (pow_pos n) in
    quotient_of_product x m d (2 ^ p) (pow_pos p) (omega (arith, r.least)) (omega arith)

-- so the quotient above the bits below the place is the product
product_of_parts : (w n p x m d : ℕ) → p < w → x ≤ 2 ^ n → IsReciprocal m d n p → concat p (x / d % 2 ^ (w - p)) (mul p x m) ≡ mul w x m
product_of_parts w n p x m d l b r =
    let e : w - p + p ≡ w = omega arith in
    ap (λ z. z % 2 ^ (w - p) * 2 ^ p + x * m % 2 ^ p) (sym (quotient_at n p x m d b r))
    ∙ sym (mod-pow-add (x * m) (w - p) p)
    ∙ ap (λ k. x * m % 2 ^ k) e

-- The product is never whole: it is above the quotient.
above_quotient : (m d p y q : ℕ) → p < m * d → 0 < y → q * d ≤ y → q * p < y * m
above_quotient zero d p y q l o b = absurd (omega arith)
above_quotient (suc m) d p y zero l o b = omega (arith, mul-lt-mul_of_pos_left {m = 0} {n = suc m} (omega arith) o)
above_quotient (suc m) d p y (suc q) l o b =
    let f : suc q * p < suc q * (suc m * d) = mul-lt-mul_of_pos_left l (omega arith) in
    let g : suc q * d * suc m ≤ y * suc m = mul-le-mul_right (suc m) b in
    omega arith

-- Of a product whose sum with another is a multiple of w * p, the upper part is the turned upper part of the other, which is not whole.
upper_of_opposite : (w p x y m q t : ℕ) → 0 < w → 0 < p → x + y ≡ w * p → y * m ≡ q * p + t → 0 < t → t < p → x * m / p % w ≡ w - 1 - q % w
upper_of_opposite w p x y m q t ow op s f o b =
    let whole : x * m + y * m ≡ w * m * p = omega (arith, ap (λ z. z * m) s) in
    let less : q * p < w * m * p = omega arith in
    let small : q < w * m = lt_of_mul-lt-mul_right p less in
    let z = w * m - 1 - q in
    let zp : (z + q + 1) * p ≡ w * m * p = ap (λ k. k * p) (let h : z + q + 1 ≡ w * m = omega arith in h) in
    let parts : x * m ≡ z * p + (p - t) = omega arith in
    let quotient : x * m / p ≡ z = ap (λ k. k / p) parts ∙ digits_div z (omega arith) in
    let v = q % w in
    let u = q / w in
    let vb : v < w = mod_below q w ow in
    let qs : q ≡ u * w + v = sym (div-add-mod' q w) in
    let um : u * w < m * w = omega arith in
    let ul : u < m = lt_of_mul-lt-mul_right w um in
    let k = m - 1 - u in
    let kw : (k + u + 1) * w ≡ m * w = ap (λ a. a * w) (let h : k + u + 1 ≡ m = omega arith in h) in
    let zs : z ≡ k * w + (w - 1 - v) = omega arith in
    ap (λ a. a % w) (quotient ∙ zs) ∙ mod-mul-add k w (w - 1 - v) (omega arith)

-- so below 0 the turned quotient of the absolute value is above the bits below the place
opposite_of_parts : (w n p x y m d : ℕ) → p < w → 0 < y → y ≤ 2 ^ n → x + y ≡ 2 ^ w → IsReciprocal m d n p →
    concat p (2 ^ (w - p) - 1 - y / d % 2 ^ (w - p)) (mul p x m) ≡ mul w x m
opposite_of_parts w n p x y m d l o b s r =
    let e : w - p + p ≡ w = omega arith in
    let c : 2 ^ w ≡ 2 ^ (w - p) * 2 ^ p = ap (λ k. 2 ^ k) (sym e) ∙ pow-add 2 (w - p) p in
    let q = y / d in
    let at : y * m / 2 ^ p ≡ q = quotient_at n p y m d b r in
    let f : y * m ≡ q * 2 ^ p + y * m % 2 ^ p = sym (div-add-mod' (y * m) (2 ^ p)) ∙ ap (λ k. k * 2 ^ p + y * m % 2 ^ p) at in
    let qd : q * d ≤ y = omega (arith, div-add-mod' y d) in
    let a : q * 2 ^ p < y * m = above_quotient m d (2 ^ p) y q r.least o qd in
    let t : 0 < y * m % 2 ^ p = omega arith in
    let u = upper_of_opposite (2 ^ (w - p)) (2 ^ p) x y m q (y * m % 2 ^ p) (pow_pos (w - p)) (pow_pos p) (s ∙ c) f t (mod_below (y * m) (2 ^ p) (pow_pos p)) in
    ap (λ z. z * 2 ^ p + x * m % 2 ^ p) (sym u) ∙ sym (mod-pow-add (x * m) (w - p) p) ∙ ap (λ k. x * m % 2 ^ k) e

-- the lowest bits of a product with a constant, from the lowest bits of both
pub lower_product : (p x m : ℕ) → mul p (x % 2 ^ p) (word p m) ≡ mul p x m
lower_product p x m = sym (mul-mod x m (2 ^ p))

-- the quotient by a constant that is not 0
pub quotient_of_words : (b y d : ℕ) → 1 ≤ d → d < 2 ^ b → udiv b y (word b d) ≡ y / d
quotient_of_words b y d o l = let e : (d == 0) ≡ false = grind (arith, nat_tests) in rw (mod-eq_of_lt l, e) refl

signed_cases : (w b p x m d l : ℕ) (c : Bool) → 1 ≤ b → b ≤ w → p < w → l < 2 ^ b → is_negative b l ≡ c → x ≡ cond c (l + (2 ^ w - 2 ^ b)) l →
    IsReciprocal m d (b - 1) p → concat p (turned (w - p) c (cond c (2 ^ b - l) l / d % 2 ^ (w - p))) (mul p x m) ≡ mul w x m
signed_cases w b p x m d l true o bw pw lb c e r =
    let f : 2 ^ (b - 1) ≤ l = grind (arith, nat_tests) in
    let h : 2 ^ b ≡ 2 * 2 ^ (b - 1) = half_pow b o in
    let k : 2 ^ b ≤ 2 ^ w = pow-le-pow_right (omega arith) bw in
    opposite_of_parts w (b - 1) p x (2 ^ b - l) m d pw (omega arith) (omega arith) (omega arith) r
signed_cases w b p x m d l false o bw pw lb c e r =
    let f : l < 2 ^ (b - 1) = grind (arith, nat_tests) in
    rw (sym e) (product_of_parts w (b - 1) p x m d pw (omega arith) r)

-- the product of a word that is the signed extension of its lowest b bits
pub product_of_signed : (w b p x m d : ℕ) → 1 ≤ b → b ≤ w → p < w → x ≡ sign_extend b w (x % 2 ^ b) → IsReciprocal m d (b - 1) p →
    concat p (turned (w - p) (is_negative b (x % 2 ^ b)) (magnitude b (x % 2 ^ b) / d % 2 ^ (w - p))) (mul p x m) ≡ mul w x m
product_of_signed w b p x m d o bw pw e r = signed_cases w b p x m d (x % 2 ^ b) _ o bw pw (mod_below x (2 ^ b) (pow_pos b)) refl e r

-- a difference takes off again what was added, modulo t
back : (t a b : ℕ) → b < t → ((a + b) % t + (t - b)) % t ≡ a % t
back t a b h =
    let e : a + b + (t - b) ≡ a + t = omega arith in
    mod-add-mod (a + b) t (t - b) ∙ ap (λ k. k % t) e ∙ add-mod_right a t

raised : (s t x f : ℕ) → 0 < s → t ≡ s * s → (x * ((f + s) % t) % t + (t - x % s * s)) % t ≡ x * f % t
raised s t x f o e =
    let b = x % s * s in
    let l : b < s * s = mul-lt-mul_of_pos_right (mod_below x s o) o in
    let w : x * s ≡ (x / s * s + x % s) * s = ap (λ k. k * s) (sym (div-add-mod' x s)) in
    let u : x / s * t ≡ x / s * (s * s) = ap (λ k. x / s * k) e in
    let p : x * (f + s) ≡ x * f + b + x / s * t = omega arith in
    let m : x * ((f + s) % t) % t ≡ (x * f + b) % t = mul-mod_second x (f + s) t ∙ ap (λ k. k % t) p ∙ add-mul-mod_self_right (x * f + b) (x / s) t in
    rw m (back t (x * f) b (omega arith))

-- the product with a constant from that with 2 ^ 32 more
pub product_of_raised : (x f : ℕ) → sub 64 (mul 64 x ((f + 2 ^ 32) % 2 ^ 64)) (x % 2 ^ 32 * 2 ^ 32) ≡ mul 64 x f
product_of_raised x f = raised 4294967296 18446744073709551616 x f (omega arith) refl
