-- The numbers of carries out of shifts.
use Rattle.std.proofs.Common.{◌≡◌, ◌⊎◌, inl, inr, ℕ, zero, suc, ◌+◌, ◌-◌, ◌*◌, ◌/◌, ◌%◌, ◌^◌, ◌<◌, ◌≤◌, nat_le, nat_lt, Bool, true, false, refl, sym, ap, subst, ◌∙◌, arith, min}
use Rattle.std.specs.Prelude.{◌==◌, if◌then◌else◌}
use Rattle.std.proofs.lemmas.Bool.{ne_eqb}
use Rattle.std.proofs.lemmas.Bool.Decides.{nat_tests}
use Rattle.std.proofs.lemmas.Nat.{pow-add, pow_pos, div-add-mod', shr-shr, shl-shr, mod_below, shr_below, mul-add-lt, div-mul-add, shr_le, mod-pow-add}
use Rattle.std.proofs.Math.Nat.{mul-add-div_right}
use Rattle.word_spec.specs.Words.{bit_at, sar, complement}
use Rattle.machine_spec.specs.Arm as rows
use Rattle.machine_spec.specs.BilMeaning.{Word, extract_from}
use Rattle.arm_lift_alu.proofs.Shifts.{turned_by}

truth : (b : Bool) → (b ≡ true) ⊎ (b ≡ false)
truth true = inl refl
truth false = inr refl

-- one bit of a word
pub bit_is : (i x : ℕ) → i < 32 → extract_from i i (Word 32 x) ≡ Word 1 (bit_at i x)
bit_is i x h =
    let a : nat_le i i ≡ true = grind (arith, nat_tests) in
    let b : nat_lt i 32 ≡ true = grind (arith, nat_tests) in
    let c : i - i ≡ 0 = omega arith in
    let d : i + 1 - i ≡ 1 = omega arith in
    rw (a, b, c, d) refl

less_one : (n : ℕ) → suc n - 1 ≡ n
less_one n = omega arith

-- bit 32 behind a shift to the left
left_within : (d x n j : ℕ) → x < 2 ^ 32 → suc n + j ≡ 32 → (d * 2 ^ 32 + x) * 2 ^ suc n % 2 ^ 33 / 2 ^ 32 % 2 ≡ x / 2 ^ j % 2
left_within d x n j h e =
    let y = d * 2 ^ 32 + x in
    let top : y * 2 ^ suc n / 2 ^ 32 ≡ y / 2 ^ j
    = ap (λ z. y * 2 ^ suc n / 2 ^ z) (sym e) ∙ sym (shr-shr (y * 2 ^ suc n) (suc n) j) ∙ ap (λ z. z / 2 ^ j) (shl-shr y (suc n)) in
    let whole : 2 ^ 32 ≡ 2 ^ suc n * 2 ^ j = ap (λ z. 2 ^ z) (sym e) ∙ pow-add 2 (suc n) j in
    let one : suc n ≡ 1 + n = omega arith in
    let twice : 2 ^ suc n ≡ 2 * 2 ^ n = ap (λ z. 2 ^ z) one ∙ pow-add 2 1 n in
    let split : y ≡ d * 2 ^ suc n * 2 ^ j + x = ap (λ z. d * z + x) whole ∙ omega arith in
    let down : y / 2 ^ j ≡ d * 2 ^ suc n + x / 2 ^ j = ap (λ z. z / 2 ^ j) split ∙ mul-add-div_right (pow_pos j) (d * 2 ^ suc n) x in
    cut (y * 2 ^ suc n) ∙ ap (λ z. z % 2) (top ∙ down ∙ ap (λ z. d * z + x / 2 ^ j) twice) ∙ even (d * 2 ^ n) (x / 2 ^ j) (d * (2 * 2 ^ n)) (omega arith)
  where
    cut : (a : ℕ) → a % 2 ^ 33 / 2 ^ 32 % 2 ≡ a / 2 ^ 32 % 2
    cut a = omega arith

    even : (a b c : ℕ) → c ≡ 2 * a → (c + b) % 2 ≡ b % 2
    even a b c h = omega arith

pub left_carry : (d x a : ℕ) → d < 2 → x < 2 ^ 32 → (d * 2 ^ 32 + x) * 2 ^ min a 33 % 2 ^ 33 / 2 ^ 32 % 2 ≡ (rows.by_register 0 a x d).carry
left_carry d x zero g h = omega arith
left_carry d x (suc n) g h = elim (truth (nat_le (suc n) 32)) [
  | inl t ↦ (let m : min (suc n) 33 ≡ suc n = grind (arith, nat_tests) in rw (t, m) (left_within d x n (32 - suc n) h (grind (arith, nat_tests))))
  | inr t ↦ (let m : min (suc n) 33 ≡ 33 = grind (arith, nat_tests) in rw (t, m) (past (d * 2 ^ 32 + x)))
]
  where
    past : (y : ℕ) → y * 2 ^ 33 % 2 ^ 33 / 2 ^ 32 % 2 ≡ 0
    past y = omega arith

halved : (d x n : ℕ) → d < 2 → (x * 2 ^ 1 + d) / 2 ^ suc n ≡ x / 2 ^ n
halved d x n h =
    let e : suc n ≡ 1 + n = omega arith in
    let f : (x * 2 ^ 1 + d) / 2 ^ 1 ≡ x = omega arith in
    ap (λ z. (x * 2 ^ 1 + d) / 2 ^ z) e ∙ sym (shr-shr (x * 2 ^ 1 + d) 1 n) ∙ ap (λ z. z / 2 ^ n) f

-- the lowest bit behind a shift to the right
pub right_carry : (d x a : ℕ) → d < 2 → x < 2 ^ 32 → (x * 2 ^ 1 + d) / 2 ^ min a 33 % 2 ^ 1 ≡ (rows.by_register 1 a x d).carry
right_carry d x zero g h = omega arith
right_carry d x (suc n) g h = elim (truth (nat_le (suc n) 32)) [
  | inl t ↦ (let m : min (suc n) 33 ≡ suc n = grind (arith, nat_tests) in rw (t, m, less_one n) (ap (λ z. z % 2) (halved d x n g)))
  | inr t ↦ (let m : min (suc n) 33 ≡ 33 = grind (arith, nat_tests) in rw (t, m) (omega arith))
]

-- a word with its bits turned, shifted
turned_shift : (x n : ℕ) → x < 2 ^ 32 → n < 32 → (2 ^ 33 - 1 - (2 ^ 32 - 1 - x) / 2 ^ n) % 2 ≡ x / 2 ^ n % 2
turned_shift x n h l =
    let e : 32 ≡ (32 - n) + n = omega arith in
    let f : 32 - n ≡ 1 + (31 - n) = omega arith in
    let whole : 2 ^ 32 ≡ 2 ^ (32 - n) * 2 ^ n = ap (λ z. 2 ^ z) e ∙ pow-add 2 (32 - n) n in
    let even : 2 ^ (32 - n) ≡ 2 * 2 ^ (31 - n) = ap (λ z. 2 ^ z) f ∙ pow-add 2 1 (31 - n) in
    let up : x / 2 ^ n < 2 ^ (32 - n) = shr_below x (32 - n) n (subst (λ (z : ℕ). x < 2 ^ z) e h) in
    let rest : x % 2 ^ n < 2 ^ n = mod_below x (2 ^ n) (pow_pos n) in
    by (x / 2 ^ n) (x % 2 ^ n) (2 ^ n) (2 ^ (32 - n)) (2 ^ (31 - n)) (2 ^ (32 - n) - 1 - x / 2 ^ n) x whole even up rest (sym (div-add-mod' x (2 ^ n)))
    (omega arith) (shr_le (2 ^ 32 - 1 - x) n)
  where
    spread : (y u p : ℕ) → (y + 1 + u) * p ≡ y * p + p + u * p
    spread y u p = omega arith

    last : (u h y : ℕ) → y + 1 + u ≡ 2 * h → y < 2 ^ 32 → (2 ^ 33 - 1 - y) % 2 ≡ u % 2
    last u h y s b = omega arith

    by : (u r p q h y x : ℕ) → 2 ^ 32 ≡ q * p → q ≡ 2 * h → u < q → r < p → x ≡ u * p + r → y + 1 + u ≡ q → (2 ^ 32 - 1 - x) / p ≤ 2 ^ 32 - 1 - x →
        (2 ^ 33 - 1 - (2 ^ 32 - 1 - x) / p) % 2 ≡ u % 2
    by u r p q h y x whole even less rest parts sum bound =
        let w : 2 ^ 32 ≡ y * p + p + u * p = whole ∙ ap (λ z. z * p) (sym sum) ∙ spread y u p in
        let c : 2 ^ 32 - 1 - x ≡ y * p + (p - 1 - r) = omega arith in
        let d : (2 ^ 32 - 1 - x) / p ≡ y = ap (λ z. z / p) c ∙ div-mul-add y p (p - 1 - r) (omega arith) in
        let b : y ≤ 2 ^ 32 - 1 - x = subst (λ (z : ℕ). z ≤ 2 ^ 32 - 1 - x) d bound in
        ap (λ z. (2 ^ 33 - 1 - z) % 2) d ∙ last u h y (omega arith) (omega arith)

-- the lowest bit behind a signed shift to the right
pub signed_carry : (d x a : ℕ) → d < 2 → x < 2 ^ 32 → sar 33 (x * 2 ^ 1 + d) a % 2 ^ 1 ≡ (rows.by_register 2 a x d).carry
signed_carry d x a g h = elim (truth (nat_le (2 ^ 32) (x * 2 ^ 1 + d))) [ inl t ↦ rw t (below a t) | inr t ↦ rw t (above a t) ]
  where
    within : (n : ℕ) → nat_le (suc n) 32 ≡ true → min (suc n) 33 ≡ suc n
    within n t = grind (arith, nat_tests)

    past : (n : ℕ) → nat_le (suc n) 32 ≡ false → min (suc n) 33 ≡ 33
    past n t = grind (arith, nat_tests)

    small : (n : ℕ) → nat_le (suc n) 32 ≡ true → n < 32
    small n t = grind (arith, nat_tests)

    large : nat_le (2 ^ 32) (x * 2 ^ 1 + d) ≡ true → 2 ^ 31 ≤ x
    large t = grind (arith, nat_tests)

    little : nat_le (2 ^ 32) (x * 2 ^ 1 + d) ≡ false → x < 2 ^ 31
    little t = grind (arith, nat_tests)

    turned : (n : ℕ) → (2 ^ 33 - 1 - (x * 2 ^ 1 + d)) / 2 ^ suc n ≡ (2 ^ 32 - 1 - x) / 2 ^ n
    turned n =
        let e : suc n ≡ 1 + n = omega arith in
        let f : (2 ^ 33 - 1 - (x * 2 ^ 1 + d)) / 2 ^ 1 ≡ 2 ^ 32 - 1 - x = omega arith in
        ap (λ z. (2 ^ 33 - 1 - (x * 2 ^ 1 + d)) / 2 ^ z) e ∙ sym (shr-shr (2 ^ 33 - 1 - (x * 2 ^ 1 + d)) 1 n) ∙ ap (λ z. z / 2 ^ n) f

    below : (a : ℕ) → nat_le (2 ^ 32) (x * 2 ^ 1 + d) ≡ true → complement 33 (complement 33 (x * 2 ^ 1 + d) / 2 ^ min a 33) % 2 ^ 1
        ≡ (rows.by_register 2 a x d).carry
    below zero n = omega arith
    below (suc a) n = elim (truth (nat_le (suc a) 32)) [
      | inl t ↦ rw (t, within a t, less_one a) (ap (λ z. (2 ^ 33 - 1 - z) % 2) (turned a) ∙ turned_shift x a h (small a t))
      | inr t ↦ (let l = large n in rw (t, past a t) (omega arith))
    ]

    above : (a : ℕ) → nat_le (2 ^ 32) (x * 2 ^ 1 + d) ≡ false → (x * 2 ^ 1 + d) / 2 ^ min a 33 % 2 ^ 1 ≡ (rows.by_register 2 a x d).carry
    above zero n = omega arith
    above (suc a) n = elim (truth (nat_le (suc a) 32)) [
      | inl t ↦ rw (t, within a t, less_one a) (ap (λ z. z % 2) (halved d x a g))
      | inr t ↦ (let l = little n in rw (t, past a t) (omega arith))
    ]

-- the highest bit of a rotated word
pub around_bit : (x k : ℕ) → x < 2 ^ 32 → k < 32 → bit_at 31 (turned_by x k) ≡ (if k == 0 then bit_at 31 x else bit_at (k - 1) x)
around_bit x zero h l = omega arith
around_bit x (suc j) h l =
    let some : (suc j == 0) ≡ false = ne_eqb (suc j) 0 (λ e. omega arith) in
    let e : 31 - j ≡ 32 - suc j = omega arith in
    let f : 32 ≡ (31 - j) + suc j = omega arith in
    let g : 31 ≡ (31 - j) + j = omega arith in
    let one : suc j ≡ 1 + j = omega arith in
    let rest : x % 2 ^ suc j ≡ x / 2 ^ j % 2 * 2 ^ j + x % 2 ^ j = ap (λ z. x % 2 ^ z) one ∙ mod-pow-add x 1 j in
    let up : x / 2 ^ suc j < 2 ^ (31 - j) = shr_below x (31 - j) (suc j) (subst (λ (z : ℕ). x < 2 ^ z) f h) in
    let low : x % 2 ^ j < 2 ^ j = mod_below x (2 ^ j) (pow_pos j) in
    let whole : 2 ^ 31 ≡ 2 ^ (31 - j) * 2 ^ j = ap (λ z. 2 ^ z) g ∙ pow-add 2 (31 - j) j in
    let fits = mul-add-lt (x % 2 ^ j) (2 ^ (31 - j)) (x / 2 ^ suc j) (2 ^ j) low up in
    rw (some, less_one j, ← e, rest) (by (x / 2 ^ suc j) (x / 2 ^ j % 2) (2 ^ j) (x % 2 ^ j) (2 ^ (31 - j)) whole fits (omega arith))
  where
    spread : (b p t q u : ℕ) → u + (b * p + t) * q ≡ b * (q * p) + (t * q + u)
    spread b p t q u = omega arith

    by : (u b p t q : ℕ) → 2 ^ 31 ≡ q * p → t * q + u < q * p → b < 2 → (u + (b * p + t) * q) / 2 ^ 31 % 2 ≡ b
    by u b p t q whole fits small =
        let s : u + (b * p + t) * q ≡ b * 2 ^ 31 + (t * q + u) = spread b p t q u ∙ ap (λ z. b * z + (t * q + u)) (sym whole) in
        let f : t * q + u < 2 ^ 31 = subst (λ (z : ℕ). t * q + u < z) (sym whole) fits in
        ap (λ z. z / 2 ^ 31 % 2) s ∙ ap (λ z. z % 2) (div-mul-add b (2 ^ 31) (t * q + u) f) ∙ omega arith
