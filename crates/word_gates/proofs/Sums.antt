-- Sums.
use Rattle.std.proofs.Common.{◌≡◌, ℕ, ◌+◌, ◌*◌, ◌^◌, ◌<◌, Bool, true, false, cond, List, [], ◌∷◌, ◌++◌, length, refl, sym, ◌∙◌, ap, arith, ◌-◌, ◌%◌}
use Rattle.std.proofs.Math.Nat.{mod-eq_of_lt, add-mul-mod_self_left}
use Rattle.word_spec.specs.Words.{bit, differ, mul}
use Rattle.gates.specs.declared.bit.Bit.{Bit}
use Rattle.gates.specs.Circuits.{bit_value, majority}
use Rattle.word_gates.specs.Numbers.{number, digit}
use Rattle.word_gates.proofs.Words.{number_push, pow_more}
use Rattle.word_gates.proofs.Places.{full_adder}

pub sum_step : (v : ℕ → Bool) (bits : List Bit) (s d c x y : Bit) (i m n k : ℕ) →
    number v bits + 2 ^ i * digit v c ≡ m + n + k →
    length bits ≡ i →
    bit_value v s ≡ differ (differ (bit_value v x) (bit_value v y)) (bit_value v c) →
    bit_value v d ≡ majority (bit_value v x) (bit_value v y) (bit_value v c) →
    number v (bits ++ s ∷ []) + 2 ^ (i + 1) * digit v d ≡ (m + 2 ^ i * digit v x) + (n + 2 ^ i * digit v y) + k
sum_step v bits s d c x y i m n k h l p q =
    let f = full_adder (bit_value v x) (bit_value v y) (bit_value v c) in
    let g : digit v s + 2 * digit v d ≡ digit v x + digit v y + digit v c = rw (p, q) f in
    let e : 2 ^ i * digit v s + 2 * 2 ^ i * digit v d ≡ 2 ^ i * digit v x + 2 ^ i * digit v y + 2 ^ i * digit v c = omega (arith, ap (λ t. 2 ^ i * t) g) in
    let o : number v (bits ++ s ∷ []) ≡ number v bits + 2 ^ i * digit v s = number_push v bits s ∙ ap (λ k. number v bits + 2 ^ k * digit v s) l in
    let t : 2 ^ (i + 1) ≡ 2 * 2 ^ i = pow_more i in
    rw (o, t) (omega arith)

pub sum_modulo : (p s c m z : ℕ) → s + p * c ≡ m + z → z ≡ 0 → s < p → s ≡ m % p
sum_modulo p s c m z e h l =
    let f : m ≡ s + p * c = omega arith in
    rw f (sym (mod-eq_of_lt l) ∙ sym (add-mul-mod_self_left s p c))

pub difference_modulo : (p s c a b t o : ℕ) → s + p * c ≡ a + t + o → t ≡ p - 1 - b → o ≡ 1 → b < p → s < p → s ≡ (a + (p - b)) % p
difference_modulo p s c a b t o e f g h l = let k : s + p * c ≡ (a + (p - b)) + 0 = omega arith in sum_modulo p s c (a + (p - b)) 0 k refl l

pub negative_modulo : (p s c z b t o : ℕ) → s + p * c ≡ z + t + o → z ≡ 0 → t ≡ p - 1 - b → o ≡ 1 → b < p → s < p → s ≡ (p - b) % p
negative_modulo p s c z b t o e y f g h l = let k : s + p * c ≡ (p - b) + 0 = omega arith in sum_modulo p s c (p - b) 0 k refl l

-- ---- products

-- L is the low bits that are done, p their weight, R the sum above them, and k the weight of what that sum has bits for
row_taken : (p k ab b l r q a al ah s c s0 s1 : ℕ) → l + p * r + p * k * q ≡ ab → a ≡ k * ah + al → s + k * c ≡ r + al + 0 → s ≡ s0 + 2 * s1 →
    (l + p * s0) + 2 * p * s1 + p * k * (q + c + ah) ≡ ab + a * p
row_taken p k ab b l r q a al ah s c s0 s1 e f g h =
    let m : p * s + p * k * c ≡ p * r + p * al = omega (arith, ap (λ t. p * t) g) in
    let n : p * s ≡ p * s0 + 2 * p * s1 = omega (arith, ap (λ t. p * t) h) in
    let o : a * p ≡ p * k * ah + p * al = omega (arith, ap (λ t. t * p) f) in
    omega arith

row_left : (p k ab b l r q s c s0 s1 : ℕ) → l + p * r + p * k * q ≡ ab → s + k * c ≡ r + 0 + 0 → s ≡ s0 + 2 * s1 →
    (l + p * s0) + 2 * p * s1 + p * k * (q + c) ≡ ab
row_left p k ab b l r q s c s0 s1 e g h =
    let m : p * s + p * k * c ≡ p * r = omega (arith, ap (λ t. p * t) g) in
    let n : p * s ≡ p * s0 + 2 * p * s1 = omega (arith, ap (λ t. p * t) h) in
    omega arith

pub row_step : (p k w a b l r q al ah s c s0 s1 z y : ℕ) (x : Bool) → p * k ≡ w → l + p * r + w * q ≡ a * b → a ≡ k * ah + al → y ≡ cond x al 0 → z ≡ 0 →
    s + k * c ≡ r + y + z →
    s ≡ s0 + 2 * s1 → (t : ℕ) × ((l + p * s0) + 2 * p * s1 + w * t ≡ a * (b + p * bit x))
row_step p k w a b l r q al ah s c s0 s1 z y true pk e f u o g h =
    let e2 : l + p * r + p * k * q ≡ a * b = rw pk e in
    let y2 : y ≡ al = u in
    let g2 : s + k * c ≡ r + al + 0 = omega arith in
    let t = row_taken p k (a * b) b l r q a al ah s c s0 s1 e2 f g2 h in
    (q + c + ah, let d : a * (b + p * 1) ≡ a * b + a * p = omega arith in rw (← pk, d) t)
row_step p k w a b l r q al ah s c s0 s1 z y false pk e f u o g h =
    let e2 : l + p * r + p * k * q ≡ a * b = rw pk e in
    let y2 : y ≡ 0 = u in
    let g2 : s + k * c ≡ r + 0 + 0 = omega arith in
    let t = row_left p k (a * b) b l r q s c s0 s1 e2 g2 h in
    (q + c, let d : a * (b + p * 0) ≡ a * b = omega arith in rw (← pk, d) t)

pub product_modulo : (w l r q m : ℕ) → l + r + w * q ≡ m → r ≡ 0 → l < w → l ≡ m % w
product_modulo w l r q m e h k = sum_modulo w l q m 0 (omega arith) refl k

pub nothing : (ls : List Bit) → length ls ≡ 0 → ls ≡ []
nothing [] e = refl
nothing (l ∷ ls) e = absurd (omega arith)

pub mul_swap : (n a b : ℕ) → mul n a b ≡ mul n b a
mul_swap n a b = let e : a * b ≡ b * a = omega arith in ap (λ t. t % 2 ^ n) e
