-- The numbers of shifts.
use Rattle.std.proofs.Common.{◌≡◌, ℕ, zero, suc, ◌+◌, ◌-◌, ◌*◌, ◌/◌, ◌%◌, ◌^◌, ◌<◌, refl, sym, ap, subst, ◌∙◌, arith}
use Rattle.std.proofs.lemmas.Grind.{common_steps}
use Rattle.std.proofs.lemmas.Nat.{pow-add, pow_pos, div-add-mod'}
use Rattle.std.proofs.Math.Nat.{mul-add-div_right}
use Rattle.std.proofs.lemmas.Bool.Decides.{nat_tests}
use Rattle.word_spec.specs.Words.{shl, shr, sar}
use Rattle.machine_spec.specs.Arm as rows
use Rattle.machine_spec.proofs.ArmRanges.{ror_small}

-- a rotation by k
abbrev pub turned_by : ℕ → ℕ → ℕ
turned_by x k = x / 2 ^ k + x % 2 ^ k * 2 ^ (32 - k)

pub power : (k : ℕ) → k < 64 → 1 * 2 ^ k % 18446744073709551616 ≡ 2 ^ k
power k h = grind (arith, common_steps)

pub turned_small : (x k : ℕ) → x < 2 ^ 32 → k < 32 → x / 2 ^ k + x % 2 ^ k * 2 ^ (32 - k) < 2 ^ 32
turned_small x k h l =
    let e : k % 32 ≡ k = omega arith in
    subst (λ (z : ℕ). x / 2 ^ z + x % 2 ^ z * 2 ^ (32 - z) < 2 ^ 32) e (ror_small x k h)

spread : (a b p q : ℕ) → (a * p + b) * q ≡ a * (q * p) + b * q
spread a b p q = omega arith

-- the word twice, shifted
pub rotation : (x k : ℕ) → x < 2 ^ 32 → k < 32 → (x * 2 ^ 32 + x) / 2 ^ k % 2 ^ 32 ≡ turned_by x k
rotation x k h l =
    let e : 32 ≡ (32 - k) + k = omega arith in
    let whole : 2 ^ 32 ≡ 2 ^ (32 - k) * 2 ^ k = ap (λ z. 2 ^ z) e ∙ pow-add 2 (32 - k) k in
    let up : x * 2 ^ 32 + x ≡ x * 2 ^ (32 - k) * 2 ^ k + x = ap (λ z. x * z + x) whole ∙ omega arith in
    let down : (x * 2 ^ 32 + x) / 2 ^ k ≡ x * 2 ^ (32 - k) + x / 2 ^ k = ap (λ z. z / 2 ^ k) up ∙ mul-add-div_right (pow_pos k) (x * 2 ^ (32 - k)) x in
    let parts : x * 2 ^ (32 - k) ≡ x / 2 ^ k * 2 ^ 32 + x % 2 ^ k * 2 ^ (32 - k)
    = ap (λ z. z * 2 ^ (32 - k)) (sym (div-add-mod' x (2 ^ k))) ∙ spread (x / 2 ^ k) (x % 2 ^ k) (2 ^ k) (2 ^ (32 - k))
    ∙ ap (λ z. x / 2 ^ k * z + x % 2 ^ k * 2 ^ (32 - k)) (sym whole) in
    ap (λ z. z % 2 ^ 32) (down ∙ ap (λ z. z + x / 2 ^ k) parts) ∙ cut (x / 2 ^ k) (x % 2 ^ k * 2 ^ (32 - k)) (turned_small x k h l)
  where
    cut : (a b : ℕ) → a + b < 2 ^ 32 → (a * 2 ^ 32 + b + a) % 2 ^ 32 ≡ a + b
    cut a b h = omega arith

-- a shift by an amount that may be 0
pub left_by : (x a c : ℕ) → x < 2 ^ 32 → shl 32 x a ≡ (rows.by_register 0 a x c).value
left_by x zero c h = omega arith
left_by x (suc a) c h = refl

pub right_by : (x a c : ℕ) → x < 2 ^ 32 → shr 32 x a ≡ (rows.by_register 1 a x c).value
right_by x zero c h = omega arith
right_by x (suc a) c h = refl

pub signed_by : (x a c : ℕ) → x < 2 ^ 32 → sar 32 x a ≡ (rows.by_register 2 a x c).value
signed_by x zero c h = grind (arith, nat_tests)
signed_by x (suc a) c h = refl

around : (x a k c : ℕ) → a % 32 ≡ k → turned_by x k ≡ (rows.by_register 3 a x c).value
around x zero k c e = ap (turned_by x) (sym e) ∙ omega arith
around x (suc a) k c e = ap (turned_by x) (sym e)

pub around_by : (x m c : ℕ) → turned_by x (m % 32) ≡ (rows.by_register 3 (m % 256) x c).value
around_by x m c = around x (m % 256) (m % 32) c (omega arith)
