-- Quotients by a constant as the upper bits of products: how compilers write an unsigned division.
use Rattle.std.proofs.Common.{◌≡◌, ℕ, zero, suc, ◌+◌, ◌-◌, ◌*◌, ◌/◌, ◌%◌, ◌^◌, ◌<◌, ◌≤◌, ap, sym, ◌∙◌, arith}
use Rattle.std.proofs.lemmas.Nat.{div-add-mod', mod_below, pow_pos, pow-add}
use Rattle.std.proofs.Math.Nat.{lt_of_mul-lt-mul_left, mul-le-mul_left, mul-le-mul_right, mul-lt-mul_of_pos_right}
use Rattle.std.proofs.Math.Arith.{digits_div}

-- a factor of a number that is not 0
positive : (m d p : ℕ) → 0 < p → p ≤ m * d → 0 < d
positive m zero p o l = absurd (omega arith)
positive m (suc d) p o l = omega arith

-- of the product of a dividend q * d + r, what stands below the quotient
left : (m d p e q r : ℕ) → m * d ≡ p + e → r < d → (q * d + r) * e < p → q * e + r * m < p
left m d p e q r s b l =
    let t : r * (m * d) ≡ r * (p + e) = ap (λ z. r * z) s in
    let u : (r + 1) * p ≤ d * p = mul-le-mul_right p (let h : r + 1 ≤ d = omega arith in h) in
    let v : d * (q * e + r * m) < d * p = omega arith in
    lt_of_mul-lt-mul_left d v

-- Where m is a little more than p over d, so little that x times what m * d is above p stays below p, the product of x and m, over p, is the quotient of x by
-- d.
pub quotient_of_product : (x m d p : ℕ) → 0 < p → p ≤ m * d → x * (m * d - p) < p → x * m / p ≡ x / d
quotient_of_product x m d p o l h =
    let e = m * d - p in
    let s : m * d ≡ p + e = omega arith in
    let q = x / d in
    let r = x % d in
    let w : x ≡ q * d + r = sym (div-add-mod' x d) in
    let b : r < d = mod_below x d (positive m d p o l) in
    let k : (q * d + r) * e < p = omega (arith, ap (λ z. z * e) w, h) in
    let f : x * m ≡ q * p + (q * e + r * m) = omega (arith, ap (λ z. z * m) w, ap (λ z. q * z) s) in
    ap (λ z. z / p) f ∙ digits_div q (left m d p e q r s b k)

-- So it is for each word x of n bits where m * d is at most 2 ^ s above 2 ^ (n + s): of its product with m the bits from n + s on are its quotient by d.
pub quotient_by_reciprocal : (n s x m d : ℕ) → x < 2 ^ n → 2 ^ (n + s) ≤ m * d → m * d - 2 ^ (n + s) ≤ 2 ^ s → x * m / 2 ^ (n + s) ≡ x / d
quotient_by_reciprocal n s x m d b l h =
    let k : x * (m * d - 2 ^ (n + s)) ≤ x * 2 ^ s = mul-le-mul_left x h in
    let j : x * 2 ^ s < 2 ^ n * 2 ^ s = mul-lt-mul_of_pos_right b (pow_pos s) in
    quotient_of_product x m d (2 ^ (n + s)) (pow_pos (n + s)) l (omega (arith, k, j, pow-add 2 n s))
