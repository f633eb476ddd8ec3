-- Words of which some bits are known.
use Rattle.std.proofs.Common.{◌≡◌, ℕ, ◌+◌, ◌-◌, ◌*◌, ◌/◌, ◌%◌, ◌^◌, ◌<◌, ◌≤◌, bit_and, bit_or, min, max, ap, sym, subst, ◌∙◌, arith, mul_comm}
use Rattle.std.specs.Int.{bit_at}
use Rattle.std.specs.Int.Bits.{bit_xor}
use Rattle.std.specs.Int.Count.{count_leading_zeros}
use Rattle.std.proofs.Math.Pow.{shr_mono, shr_lt, mod-mod-pow, pow-sub-lt}
use Rattle.std.proofs.Math.Nat.{div-eq_of_lt, mod-eq_of_lt, mod-lt, mod-mod, le-div_iff_mul-le, add-div_left}
use Rattle.std.proofs.Math.Arith.{digits_div}
use Rattle.std.proofs.lemmas.Nat.{and_shr, and_mod, and_mask, xor_shr, xor_lt, mod-pow-add, div-add-mod', pow-add, pow_pos, leading_length, mul-add-lt}
use Rattle.std.proofs.lemmas.Nat.Bits.{bit_at_and, bit_at_or, bit_at_xor, bit_at_ones, bit_at-zero, bit_at_cat_low, bit_at-lt, same_from_bits, same_from_bits_below}
use Rattle.weakest_pre.specs.declared.facts.Known.{Known}
use Rattle.weakest_pre.specs.declared.facts.Runs.{Runs}
use Rattle.weakest_pre.specs.Known.{IsMet, IsRuns}
use Rattle.weakest_pre.specs.Folded.{pieces}

-- the bits of two masks
and_or : (w m n : ℕ) → bit_and w (bit_or m n) ≡ bit_or (bit_and w m) (bit_and w n)
and_or w m n =
    same_from_bits _ _ (λ i.
    let a = bit_at_and w (bit_or m n) i in
    let b = bit_at_or m n i in
    let c = bit_at_or (bit_and w m) (bit_and w n) i in
    let d = bit_at_and w m i in
    let e = bit_at_and w n i in
    omega arith)

-- what two things say is met where each is
pub both_met : (one other : Known) (low high w : ℕ) → low ≡ max one.low other.low → high ≡ min one.high other.high → IsMet one w → IsMet other w →
    IsMet (record { mask = bit_or one.mask other.mask; bits = bit_or one.bits other.bits; low = low; high = high }) w
both_met one other low high w p q a b =
    let al = a.low in
    let bl = b.low in
    let ah = a.high in
    let bh = b.high in
    record {
      bits = and_or w one.mask other.mask ∙ ap (λ v. bit_or v (bit_and w other.mask)) a.bits ∙ ap (bit_or one.bits) b.bits;
      low = omega arith;
      high = omega arith;
    }

-- a word between two words with the same bits from a place on has them too
pub above_bounds : (low high w p : ℕ) → low ≤ w → w ≤ high → low / 2 ^ p ≡ high / 2 ^ p → w / 2 ^ p ≡ low / 2 ^ p
above_bounds low high w p a b e =
    let c = shr_mono p a in
    let d = shr_mono p b in
    omega arith

-- two words that differ in bits below a place alone
same_above : (a b p : ℕ) → bit_xor a b < 2 ^ p → a / 2 ^ p ≡ b / 2 ^ p
same_above a b p h =
    same_from_bits _ _ (λ i.
    let none : bit_xor (a / 2 ^ p) (b / 2 ^ p) ≡ 0 = sym (xor_shr a b p) ∙ div-eq_of_lt h in
    let c = bit_at_xor (a / 2 ^ p) (b / 2 ^ p) i in
    let d : bit_at (bit_xor (a / 2 ^ p) (b / 2 ^ p)) i ≡ 0 = ap (λ n. bit_at n i) none ∙ bit_at-zero i in
    let x = bit_at-lt (a / 2 ^ p) i in
    let y = bit_at-lt (b / 2 ^ p) i in
    omega arith)

-- the place is behind the highest bit in which they differ
pub common_above : (a b : ℕ) → a < 2 ^ 32 → b < 2 ^ 32 →
    a / 2 ^ (32 - count_leading_zeros 32 (bit_xor a b)) ≡ b / 2 ^ (32 - count_leading_zeros 32 (bit_xor a b))
common_above a b h k =
    let l = leading_length 32 (bit_xor a b) (xor_lt 32 a b h k) in
    let e : l.0 ≡ 32 - count_leading_zeros 32 (bit_xor a b) = omega (arith, l.1) in
    subst (λ (p : ℕ). a / 2 ^ p ≡ b / 2 ^ p) e (same_above a b l.0 l.2)

-- the bits of a word from a place on
pub shr_high : (w p : ℕ) → p ≤ 32 → w < 2 ^ 32 → w / 2 ^ p < 2 ^ (32 - p)
shr_high w p few h =
    let both : (32 - p) + p ≡ 32 = omega arith in
    shr_lt {n = w} (32 - p) p (subst (λ (n : ℕ). w < 2 ^ n) (sym both) h)

-- a mask whose bits from a place on are 1
high_ones : (m p : ℕ) → p ≤ 32 → m < 2 ^ 32 → 2 ^ 32 ≤ m + 2 ^ p → m / 2 ^ p ≡ 2 ^ (32 - p) - 1
high_ones m p few h all =
    let both : (32 - p) + p ≡ 32 = omega arith in
    let whole : 2 ^ (32 - p) * 2 ^ p ≡ 2 ^ 32 = sym (pow-add 2 (32 - p) p) ∙ ap (λ (n : ℕ). 2 ^ n) both in
    let upper = shr_high m p few h in
    let lower : 2 ^ (32 - p) ≤ (2 ^ p + m) / 2 ^ p = (le-div_iff_mul-le {k = 2 ^ p} {x = 2 ^ (32 - p)} {y = 2 ^ p + m} (pow_pos p)).1 (omega arith) in
    let next = add-div_left m {k = 2 ^ p} (pow_pos p) in
    omega arith

-- the place is behind its highest 0
pub leading_high : (m : ℕ) → m < 2 ^ 32 →
    let p = 32 - count_leading_zeros 32 (2 ^ 32 - 1 - m) in
    m / 2 ^ p ≡ 2 ^ (32 - p) - 1
leading_high m h =
    let l = leading_length 32 (2 ^ 32 - 1 - m) (omega arith) in
    let e : l.0 ≡ 32 - count_leading_zeros 32 (2 ^ 32 - 1 - m) = omega (arith, l.1) in
    subst (λ (p : ℕ). m / 2 ^ p ≡ 2 ^ (32 - p) - 1) e (high_ones m l.0 (omega (arith, l.1)) h (omega (arith, l.2)))

-- a mask whose lowest bits are 1
pub low_ones : (m k : ℕ) → ((i : ℕ) → i < k → bit_at m i ≡ 1) → m % 2 ^ k ≡ 2 ^ k - 1
low_ones m k h =
    same_from_bits_below k (m % 2 ^ k) (2 ^ k - 1) (mod-lt m (pow_pos k)) (pow-sub-lt k (omega arith)) (λ i l.
    sym (bit_at_cat_low (m / 2 ^ k) k (m % 2 ^ k) i l) ∙ ap (λ n. bit_at n i) (div-add-mod' m (2 ^ k)) ∙ h i l ∙ sym (bit_at_ones k i l))

-- what a mask says of the lowest bits of a word
low_met : (w m v k : ℕ) → bit_and w m ≡ v → m % 2 ^ k ≡ 2 ^ k - 1 → w % 2 ^ k ≡ v % 2 ^ k
low_met w m v k h e =
    sym (ap (λ z. z % 2 ^ k) (sym h) ∙ and_mod w m k ∙ ap (bit_and (w % 2 ^ k)) e ∙ and_mask (w % 2 ^ k) k ∙ mod-mod w (2 ^ k))

-- and of those from a place on
high_met : (w m v p : ℕ) → p ≤ 32 → w < 2 ^ 32 → bit_and w m ≡ v → m / 2 ^ p ≡ 2 ^ (32 - p) - 1 → w / 2 ^ p ≡ v / 2 ^ p
high_met w m v p few l h e =
    let below = shr_high w p few l in
    sym (ap (λ z. z / 2 ^ p) (sym h) ∙ and_shr w m p ∙ ap (bit_and (w / 2 ^ p)) e ∙ and_mask (w / 2 ^ p) (32 - p) ∙ mod-eq_of_lt below)

-- the ends of a word, by its bounds
pub runs_bounded : (k : Known) (r : Runs) (w : ℕ) → k.low / 2 ^ r.place ≡ k.high / 2 ^ r.place → k.mask % 2 ^ r.count ≡ 2 ^ r.count - 1 →
    r.above ≡ k.low / 2 ^ r.place → r.below ≡ k.bits % 2 ^ r.count → IsMet k w → IsRuns r w
runs_bounded k r w same ones above below h = record {
  above = above_bounds k.low k.high w r.place h.low h.high same ∙ sym above;
  below = low_met w k.mask k.bits r.count h.bits ones ∙ sym below;
}

-- and by its bits alone
pub runs_masked : (k : Known) (r : Runs) (w : ℕ) → r.place ≤ 32 → k.mask / 2 ^ r.place ≡ 2 ^ (32 - r.place) - 1 →
    k.mask % 2 ^ r.count ≡ 2 ^ r.count - 1 →
    r.above ≡ k.bits / 2 ^ r.place → r.below ≡ k.bits % 2 ^ r.count → w < 2 ^ 32 → IsMet k w → IsRuns r w
runs_masked k r w few high ones above below l h = record {
  above = high_met w k.mask k.bits r.place few l h.bits high ∙ sym above;
  below = low_met w k.mask k.bits r.count h.bits ones ∙ sym below;
}

-- a word below a power of 2, as its bits from a place on and those below it
pub parts_below : (a b p : ℕ) → p ≤ 32 → a < 2 ^ (32 - p) → b < 2 ^ p → a * 2 ^ p + b < 2 ^ 32
parts_below a b p few h k =
    let both : (32 - p) + p ≡ 32 = omega arith in
    let whole : 2 ^ (32 - p) * 2 ^ p ≡ 2 ^ 32 = sym (pow-add 2 (32 - p) p) ∙ ap (λ (n : ℕ). 2 ^ n) both in
    let l = mul-add-lt a (2 ^ p) b (2 ^ (32 - p)) h k in
    let c = mul_comm (2 ^ (32 - p)) (2 ^ p) in
    omega arith

-- the word whose ends meet
pub word_whole : (r : Runs) (w : ℕ) → r.place ≤ r.count → IsRuns r w → w ≡ r.above * 2 ^ r.place + r.below % 2 ^ r.place
word_whole r w few h =
    let j : (r.count - r.place) + r.place ≡ r.count = omega arith in
    let short : w % 2 ^ r.count % 2 ^ r.place ≡ w % 2 ^ r.place =
    subst (λ (n : ℕ). w % 2 ^ n % 2 ^ r.place ≡ w % 2 ^ r.place) j (mod-mod-pow w (r.count - r.place) r.place) in
    let low : r.below % 2 ^ r.place ≡ w % 2 ^ r.place = ap (λ n. n % 2 ^ r.place) (sym h.below) ∙ short in
    let all = div-add-mod' w (2 ^ r.place) in
    let up : r.above * 2 ^ r.place ≡ w / 2 ^ r.place * 2 ^ r.place = ap (λ n. n * 2 ^ r.place) (sym h.above) in
    omega arith

-- the word whose ends leave a part between them
pub word_of_parts : (r : Runs) (w : ℕ) → r.count < r.place → IsRuns r w →
    r.above * 2 ^ r.place + (w / 2 ^ r.count % 2 ^ (r.place - 1 + 1 - r.count) * 2 ^ r.count + r.below) ≡ w
word_of_parts r w few h =
    let j : (r.place - r.count) + r.count ≡ r.place = omega arith in
    let k : r.place - 1 + 1 - r.count ≡ r.place - r.count = omega arith in
    let split : w % 2 ^ r.place ≡ (w / 2 ^ r.count % 2 ^ (r.place - r.count)) * 2 ^ r.count + w % 2 ^ r.count =
    subst (λ (n : ℕ). w % 2 ^ n ≡ (w / 2 ^ r.count % 2 ^ (r.place - r.count)) * 2 ^ r.count + w % 2 ^ r.count) j (mod-pow-add w (r.place - r.count) r.count) in
    let middle : w / 2 ^ r.count % 2 ^ (r.place - 1 + 1 - r.count) * 2 ^ r.count ≡ (w / 2 ^ r.count % 2 ^ (r.place - r.count)) * 2 ^ r.count =
    ap (λ n. w / 2 ^ r.count % 2 ^ n * 2 ^ r.count) k in
    let all = div-add-mod' w (2 ^ r.place) in
    let up : r.above * 2 ^ r.place ≡ w / 2 ^ r.place * 2 ^ r.place = ap (λ n. n * 2 ^ r.place) (sym h.above) in
    let low = h.below in
    omega arith

-- a number's complement, by its digits
split : (w a p n : ℕ) → a * p ≡ n → 0 < p → w / p < a → w < n → ((n - 1 - w) / p ≡ a - 1 - w / p) × ((n - 1 - w) % p ≡ p - 1 - w % p)
split w a p n whole some below h =
    let q = w / p in
    let m = w % p in
    let s = a - 1 - q in
    let d = p - 1 - m in
    let all : q * p + m ≡ w = div-add-mod' w p in
    let low : m < p = mod-lt w some in
    let up : a ≡ s + q + 1 = omega arith in
    let down : p ≡ d + m + 1 = omega arith in
    let wide : a * p ≡ (s + q + 1) * p = ap (λ z. z * p) up in
    let is : n - 1 - w ≡ s * p + d = omega arith in
    let high : (n - 1 - w) / p ≡ s = ap (λ z. z / p) is ∙ digits_div s (let k : d < p = omega arith in k) in
    let rest = div-add-mod' (n - 1 - w) p in
    let same : (n - 1 - w) / p * p ≡ s * p = ap (λ z. z * p) high in
    (high, omega arith)

-- the ends of a word's complement
complement_split : (w p : ℕ) → p ≤ 32 → w < 2 ^ 32 →
    ((2 ^ 32 - 1 - w) / 2 ^ p ≡ 2 ^ (32 - p) - 1 - w / 2 ^ p) × ((2 ^ 32 - 1 - w) % 2 ^ p ≡ 2 ^ p - 1 - w % 2 ^ p)
complement_split w p few h =
    let both : (32 - p) + p ≡ 32 = omega arith in
    let whole : 2 ^ (32 - p) * 2 ^ p ≡ 2 ^ 32 = sym (pow-add 2 (32 - p) p) ∙ ap (λ (n : ℕ). 2 ^ n) both in
    split w (2 ^ (32 - p)) (2 ^ p) (2 ^ 32) whole (pow_pos p) (shr_high w p few h) h

pub complement_runs : (r : Runs) (w : ℕ) → r.place ≤ 32 → r.count ≤ 32 → w < 2 ^ 32 → IsRuns r w →
    IsRuns (record { place = r.place; above = 2 ^ (32 - r.place) - 1 - r.above; count = r.count; below = 2 ^ r.count - 1 - r.below }) (2 ^ 32 - 1 - w)
complement_runs r w few short l h = record {
  above = (complement_split w r.place few l).0 ∙ ap (λ n. 2 ^ (32 - r.place) - 1 - n) h.above;
  below = (complement_split w r.count short l).1 ∙ ap (λ n. 2 ^ r.count - 1 - n) h.below;
}

-- the word by the parts of its complement
pub word_of_pieces : (r : Runs) (w : ℕ) → r.count < r.place → r.place ≤ 32 → w < 2 ^ 32 → IsRuns r w → pieces r w ≡ w
word_of_pieces r w some few l h =
    let turned : Runs = record { place = r.place; above = 2 ^ (32 - r.place) - 1 - r.above; count = r.count; below = 2 ^ r.count - 1 - r.below } in
    ap (λ n. 2 ^ 32 - 1 - n) (word_of_parts turned (2 ^ 32 - 1 - w) some (complement_runs r w few (omega arith) l h)) ∙ omega arith
