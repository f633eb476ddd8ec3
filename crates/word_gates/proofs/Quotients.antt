-- Division, one bit after another.
use Rattle.std.proofs.Common.{◌≡◌, ℕ, ◌+◌, ◌*◌, ◌^◌, ◌<◌, ◌≤◌, Bool, true, false, cond, List, [], ◌∷◌, ◌++◌, length, refl, sym, ◌∙◌, ap, arith, ◌==◌, nat_lt, ◌-◌, ◌/◌, ◌%◌, ⊎_elim, inl, inr}
use Rattle.std.proofs.Math.Nat.{mod-eq_of_lt, add-mul-mod_self_left}
use Rattle.std.proofs.lemmas.Nat.{pow_pos, div-mul-add}
use Rattle.std.proofs.lemmas.Bool.{cases_lt, eqb-true, cases_Bool}
use Rattle.std.proofs.lemmas.Bool.Decides.{nat_tests}
use Rattle.word_spec.specs.Words.{bit, differ, udiv, urem, sdiv, srem, is_negative, magnitude, with_sign}
use Rattle.gates.specs.declared.bit.Bit.{Bit}
use Rattle.gates.specs.Circuits.{bit_value}
use Rattle.word_gates.specs.Numbers.{number, digit, IsQuotient, IsReduced}
use Rattle.word_gates.proofs.Words.{pow_more, number_push_at}

-- the divisor is taken off
taken : (p h q r d m x t s b i : ℕ) → s + 2 * p * 1 ≡ t + m + 1 → m + d + 1 ≡ 2 * p → d < p → t ≡ x + 2 * r → x ≤ 1 → b ≡ s % p → x + 2 * h < p →
    IsQuotient h d i q r → IsQuotient (x + 2 * h) d (i + 1) (1 + 2 * q) b
taken p h q r d m x t s b i e f g u y w l k =
    let a : s + d ≡ t = omega arith in
    let z : q * 0 ≡ 0 = omega arith in
    let sl : s < p = ⊎_elim (λ o. let n : r < d = k.less o in omega arith)
    (λ o. let n : d ≡ 0 = omega arith in let hr : h ≡ q * 0 + r = k.whole ∙ ap (λ j. q * j + r) n in omega arith) (cases_lt 0 d) in
    let bs : b ≡ s = w ∙ mod-eq_of_lt sl in
    record {
      whole = let j = k.whole in omega arith;
      less = λ o. let n : r < d = k.less o in omega arith;
      by_zero = λ o. let n : q + 1 ≡ 2 ^ i = k.by_zero o in rw (pow_more i) (omega arith);
    }

-- it is not
kept : (p h q r d m x t s b i : ℕ) → s + 2 * p * 0 ≡ t + m + 1 → m + d + 1 ≡ 2 * p → d < p → t ≡ x + 2 * r → s < 2 * p → b ≡ t % p →
    IsQuotient h d i q r → IsQuotient (x + 2 * h) d (i + 1) (0 + 2 * q) b
kept p h q r d m x t s b i e f g u l w k =
    let a : t < d = omega arith in
    let tp : t < p = omega arith in
    let bt : b ≡ t = w ∙ mod-eq_of_lt tp in
    record {
      whole = let j = k.whole in omega arith;
      less = λ o. omega arith;
      by_zero = λ o. absurd (omega arith);
    }

pub division_step : (n h q r d m t b i : ℕ) (x c : Bool) → IsReduced t m n c b → m + d + 1 ≡ 2 * 2 ^ n → d < 2 ^ n → t ≡ bit x + 2 * r → bit x ≤ 1 →
    bit x + 2 * h < 2 ^ n →
    IsQuotient h d i q r → IsQuotient (bit x + 2 * h) d (i + 1) (bit c + 2 * q) b
division_step n h q r d m t b i x true k e f g y l o = taken (2 ^ n) h q r d m (bit x) t k.0 b i k.1 e f g y k.3 l o
division_step n h q r d m t b i x false k e f g y l o = kept (2 ^ n) h q r d m (bit x) t k.0 b i k.1 e f g k.2 k.3 o

pub no_quotient : (d h r : ℕ) → h ≡ 0 → r ≡ 0 → IsQuotient h d 0 0 r
no_quotient d h r e f = record { whole = omega arith; less = λ o. omega arith; by_zero = λ o. refl }

-- ---- what a division says of the definitions' operators

quotient_is : (a d n q r : ℕ) → IsQuotient a d n q r → 0 < d → a / d ≡ q
quotient_is a d n q r k h = rw k.whole (div-mul-add q d r (k.less h))

remainder_is : (a d n q r : ℕ) → IsQuotient a d n q r → 0 < d → a % d ≡ r
remainder_is a d n q r k h =
    let l : r < d = k.less h in
    let e : a ≡ r + d * q = let w = k.whole in omega arith in
    rw e (add-mul-mod_self_left r d q ∙ mod-eq_of_lt l)

some : (d : ℕ) → (d == 0) ≡ false → 0 < d
some d e = grind (arith, nat_tests)

pub udiv_from : (a d n q r : ℕ) → IsQuotient a d n q r → q ≡ udiv n a d
udiv_from a d n q r k = elim (cases_Bool (d == 0)) [
  | inl e ↦ let z : d ≡ 0 = eqb-true d 0 e in let o : q + 1 ≡ 2 ^ n = k.by_zero z in let s : q ≡ 2 ^ n - 1 = omega arith in rw e s
  | inr e ↦ rw e (sym (quotient_is a d n q r k (some d e)))
]

pub urem_from : (a d n q r : ℕ) → IsQuotient a d n q r → r ≡ urem n a d
urem_from a d n q r k = elim (cases_Bool (d == 0)) [
  | inl e ↦ let z : d ≡ 0 = eqb-true d 0 e in let o : a ≡ q * 0 + r = k.whole ∙ ap (λ t. q * t + r) z in let s : r ≡ a = omega arith in rw e s
  | inr e ↦ rw e (sym (remainder_is a d n q r k (some d e)))
]

-- ---- signs

negative_some : (n a : ℕ) → is_negative n a ≡ true → 0 < a
negative_some n a e = let p = pow_pos (n - 1) in grind (arith, nat_tests)

-- the circuit's absolute value is the definition's
pub magnitude_is : (n a : ℕ) → a < 2 ^ n → with_sign n (is_negative n a) a ≡ magnitude n a
magnitude_is n a h = elim (cases_Bool (is_negative n a)) [
  | inl e ↦ let s = negative_some n a e in let l : 2 ^ n - a < 2 ^ n = omega arith in rw e (mod-eq_of_lt l)
  | inr e ↦ rw e refl
]

magnitude_some : (n a : ℕ) → a < 2 ^ n → 0 < a → 0 < magnitude n a
magnitude_some n a h s = elim (cases_Bool (is_negative n a)) [
  | inl e ↦ let l : 0 < 2 ^ n - a = omega arith in rw e l
  | inr e ↦ rw e s
]

zero_is_not : (n : ℕ) → is_negative n 0 ≡ false
zero_is_not n = let p = pow_pos (n - 1) in grind (arith, nat_tests)

magnitude_none : (n a : ℕ) → a ≡ 0 → magnitude n a ≡ 0
magnitude_none n a e = ap (magnitude n) e ∙ rw (zero_is_not n) refl

-- the sign given back to the absolute value
signed_again : (n a : ℕ) → a < 2 ^ n → with_sign n (is_negative n a) (magnitude n a) ≡ a
signed_again n a h = elim (cases_Bool (is_negative n a)) [
  | inl e ↦ let f : 2 ^ n - (2 ^ n - a) ≡ a = omega arith in rw (e, f) (mod-eq_of_lt h)
  | inr e ↦ rw e refl
]

pub sdiv_from : (n a b q m r : ℕ) → b < 2 ^ n → q < 2 ^ n → IsQuotient (magnitude n a) (magnitude n b) n q m →
    r ≡ cond (nat_lt 0 b) (with_sign n (differ (is_negative n a) (is_negative n b)) q) (2 ^ n - 1) → r ≡ sdiv n a b
sdiv_from n a b q m r hb hq k e = elim (cases_Bool (b == 0)) [
  | inl z ↦
      let y : b ≡ 0 = eqb-true b 0 z in
      let f : nat_lt 0 b ≡ false = grind (arith, nat_tests) in
      let g : r ≡ 2 ^ n - 1 = rw f at e in
      rw z g
  | inr z ↦
      let s = some b z in
      let f : nat_lt 0 b ≡ true = grind (arith, nat_tests) in
      let g : r ≡ with_sign n (differ (is_negative n a) (is_negative n b)) q = rw f at e in
      let d = quotient_is _ _ n q m k (magnitude_some n b hb s) in
      rw (z, d, mod-eq_of_lt hq) g
]

pub srem_from : (n a b q m r : ℕ) → a < 2 ^ n → b < 2 ^ n → IsQuotient (magnitude n a) (magnitude n b) n q m → r ≡ with_sign n (is_negative n a) m →
    r ≡ srem n a b
srem_from n a b q m r ha hb k e = elim (cases_Bool (b == 0)) [
  | inl z ↦
      let y : magnitude n b ≡ 0 = magnitude_none n b (eqb-true b 0 z) in
      let o : magnitude n a ≡ q * 0 + m = k.whole ∙ ap (λ t. q * t + m) y in
      let w : m ≡ magnitude n a = omega arith in
      let g : r ≡ a = e ∙ (ap (with_sign n (is_negative n a)) w ∙ signed_again n a ha) in
      rw z g
  | inr z ↦ let d = remainder_is _ _ n q m k (magnitude_some n b hb (some b z)) in rw (z, d) e
]

-- a complement with one more place
pub turned_number : (v : ℕ → Bool) (ts : List Bit) (one : Bit) (d n : ℕ) → bit_value v one ≡ true → length ts ≡ n → number v ts + d + 1 ≡ 2 ^ n →
    number v (ts ++ one ∷ []) + d + 1 ≡ 2 * 2 ^ n
turned_number v ts one d n h l e =
    let b : digit v one ≡ 1 = ap bit h in
    rw (number_push_at v ts one n l, b) (omega arith)
