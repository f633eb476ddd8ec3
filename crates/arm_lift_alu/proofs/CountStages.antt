-- The zeros above the highest one bit of a word, counted by halving.
use Rattle.std.proofs.Common.{◌≡◌, ℕ, ◌+◌, ◌-◌, ◌*◌, ◌^◌, ◌<◌, ◌≤◌, refl, ap, sym, ◌∙◌, subst, arith, Bool, true, false, if◌then◌else◌}
use Rattle.std.specs.Prelude.{nat_lt}
use Rattle.std.specs.Int.Count.{count_leading_zeros, leading_unique}
use Rattle.std.proofs.lemmas.Bool.Decides.{nat_tests}
use Rattle.std.proofs.lemmas.Nat.{pow-add, pow_pos}
use Rattle.std.proofs.Math.Nat.{mul_assoc, lt_of_mul-lt-mul_right, mul-le-mul_right, mul-lt-mul_of_pos_right, add-mul}

-- Where a stage stands: the word, shifted by what was counted; where the word is not 0, this power at least.
pub record IsStage (a low counted shifted : ℕ) : Type 0 where
  pub small : shifted < 2 ^ 32
  pub is : shifted ≡ a * 2 ^ counted
  pub at_least : 0 < a → 2 ^ low ≤ shifted

abbrev pub counted_by : Bool → (s counted : ℕ) → ℕ
counted_by c s counted = if c then counted + s else counted

abbrev pub shifted_by : Bool → (s shifted : ℕ) → ℕ
shifted_by c s shifted = if c then shifted * 2 ^ s else shifted

below : (x n : ℕ) → nat_lt x n ≡ true → x < n
below x n h = grind (arith, nat_tests)

not_below : (x n : ℕ) → nat_lt x n ≡ false → n ≤ x
not_below x n h = grind (arith, nat_tests)

-- one stage: by s bits, where s of them are free
pub next_by : (a low s counted shifted : ℕ) → low + s + s ≡ 32 → IsStage a low counted shifted → (c : Bool) → nat_lt shifted (2 ^ (low + s)) ≡ c →
    IsStage a (low + s) (counted_by c s counted) (shifted_by c s shifted)
next_by a low s counted shifted sum st true is = record {
  small = subst (λ n. shifted * 2 ^ s < n) (sym (pow-add 2 (low + s) s) ∙ ap (λ n. 2 ^ n) sum)
      (mul-lt-mul_of_pos_right (below shifted (2 ^ (low + s)) is) (pow_pos s));
  is = ap (λ n. n * 2 ^ s) st.is ∙ (mul_assoc a (2 ^ counted) (2 ^ s) ∙ ap (λ n. a * n) (sym (pow-add 2 counted s)));
  at_least = λ some. subst (λ n. n ≤ shifted * 2 ^ s) (sym (pow-add 2 low s)) (mul-le-mul_right (2 ^ s) (st.at_least some));
}
next_by a low s counted shifted sum st false is = record {
  small = st.small;
  is = st.is;
  at_least = λ some. not_below shifted (2 ^ (low + s)) is;
}

-- in the end the highest bit is one
ended : (a counted shifted : ℕ) → counted ≤ 32 → IsStage a 31 counted shifted → 0 < a → counted ≡ count_leading_zeros 32 a
ended a counted shifted few st some =
    let m = 32 - counted in
    let sum : counted + m ≡ 32 = omega arith in
    let whole : 2 ^ m * 2 ^ counted ≡ 2 ^ 32 = sym (pow-add 2 m counted) ∙ ap (λ n. 2 ^ n) {y = 32} (omega arith) in
    let small : a * 2 ^ counted < 2 ^ m * 2 ^ counted = subst (λ n. a * 2 ^ counted < n) (sym whole) (subst (λ n. n < 2 ^ 32) st.is st.small) in
    let half : 2 ^ 31 ≤ a * 2 ^ counted = subst (λ n. 2 ^ 31 ≤ n) st.is (st.at_least some) in
    let more : 2 ^ m * 2 ^ counted < (2 * a + 1 + 1) * 2 ^ counted = above a (2 ^ counted) (2 ^ m * 2 ^ counted) half (pow_pos counted) whole in
    leading_unique 32 a counted m sum (lt_of_mul-lt-mul_right (2 ^ counted) small) (at_most (2 ^ m) (2 * a + 1) (lt_of_mul-lt-mul_right (2 ^ counted) more))
  where
    at_most : (x y : ℕ) → x < y + 1 → x ≤ y
    at_most x y h = omega arith

    above : (a k w : ℕ) → 2 ^ 31 ≤ a * k → 0 < k → w ≡ 2 ^ 32 → w < (2 * a + 1 + 1) * k
    above a k w half some is =
        let e : (2 * a + 1 + 1) * k ≡ 2 * (a * k) + 1 * k + 1 * k =
        add-mul (2 * a + 1) 1 k ∙ ap (λ n. n + 1 * k) (add-mul (2 * a) 1 k ∙ ap (λ n. n + 1 * k) (mul_assoc 2 a k)) in
        omega (arith, e, half, some, is)

-- what is counted and what is left behind five stages, by 16, 8, 4, 2 and 1 bits
module _ (a : ℕ) where
  abbrev pub c16 : Bool
  c16 = nat_lt a (2 ^ 16)

  abbrev pub y8 : ℕ
  y8 = shifted_by c16 16 a

  abbrev pub c8 : Bool
  c8 = nat_lt y8 (2 ^ 24)

  abbrev pub y4 : ℕ
  y4 = shifted_by c8 8 y8

  abbrev pub c4 : Bool
  c4 = nat_lt y4 (2 ^ 28)

  abbrev pub y2 : ℕ
  y2 = shifted_by c4 4 y4

  abbrev pub c2 : Bool
  c2 = nat_lt y2 (2 ^ 30)

  abbrev pub y1 : ℕ
  y1 = shifted_by c2 2 y2

  abbrev pub c1 : Bool
  c1 = nat_lt y1 (2 ^ 31)

  -- the word that is left in the end
  abbrev pub y0 : ℕ
  y0 = shifted_by c1 1 y1

  abbrev r8 : ℕ
  r8 = counted_by c16 16 0

  abbrev r4 : ℕ
  r4 = counted_by c8 8 r8

  abbrev r2 : ℕ
  r2 = counted_by c4 4 r4

  abbrev r1 : ℕ
  r1 = counted_by c2 2 r2

  -- what is counted in the end
  abbrev pub r0 : ℕ
  r0 = counted_by c1 1 r1

  pub at_8 : a < 2 ^ 32 → IsStage a 16 r8 y8
  at_8 h = next_by a 0 16 0 a refl (record { small = h; is = omega arith; at_least = λ some. omega arith }) c16 refl

  pub at_4 : a < 2 ^ 32 → IsStage a 24 r4 y4
  at_4 h = next_by a 16 8 r8 y8 refl (at_8 h) c8 refl

  pub at_2 : a < 2 ^ 32 → IsStage a 28 r2 y2
  at_2 h = next_by a 24 4 r4 y4 refl (at_4 h) c4 refl

  pub at_1 : a < 2 ^ 32 → IsStage a 30 r1 y1
  at_1 h = next_by a 28 2 r2 y2 refl (at_2 h) c2 refl

  pub at_0 : a < 2 ^ 32 → IsStage a 31 r0 y0
  at_0 h = next_by a 30 1 r1 y1 refl (at_1 h) c1 refl

  few : (c : Bool) (s r n : ℕ) → r ≤ n → counted_by c s r ≤ n + s
  few true s r n h = omega arith
  few false s r n h = omega arith

  pub at_most_31 : r0 ≤ 31
  at_most_31 = few c1 1 r1 30 (few c2 2 r2 28 (few c4 4 r4 24 (few c8 8 r8 16 (few c16 16 0 0 (omega arith)))))

  -- for a word that is not 0, what is counted is the number of zeros
  pub counts : a < 2 ^ 32 → 0 < a → r0 ≡ count_leading_zeros 32 a
  counts h some = let n = at_most_31 in ended a r0 y0 (omega (arith, n)) (at_0 h) some
