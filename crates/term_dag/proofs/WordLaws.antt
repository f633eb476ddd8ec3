-- Arithmetic of words, for the folds.
use mathlib.Core.Bool.{beq}
use Rattle.std.proofs.Common.{◌≡◌, ◌⊎◌, inl, inr, ℕ, zero, suc, ◌+◌, ◌-◌, ◌*◌, ◌/◌, ◌%◌, ◌^◌, ◌<◌, ◌≤◌, Bool, true, false, refl, ap, sym, ◌∙◌, arith, true≢false, bit_and, bit_or, bit_xor}
use Rattle.std.specs.Prelude.{◌==◌, not, if◌then◌else◌}
use Rattle.std.specs.Int.Bits.{xor_add_and, or_zero_r}
use Rattle.std.proofs.lemmas.Bool.Decides.{nat_tests}
use Rattle.std.proofs.lemmas.Bool.{cases_lt, false≢true}
use Rattle.std.proofs.lemmas.Nat.{pow_pos, and_mask, pow-add, field_of, shr-shr, shr_high, or_lt, le_or_r, mod-pow-add}
use Rattle.std.proofs.Math.Pow.{mod-mod-pow}
use Rattle.std.proofs.Math.Nat.{mod-eq_of_lt, add-mod_right, add-mul-mod_self_left, add-mod-mod, div-one, div-eq_of_lt, pow-le-pow_right}
use Rattle.word_spec.specs.Words as words
use Rattle.term_spec.specs.Terms.{select, extend}
use Rattle.term_dag.specs.Folds.{signed_bit}

-- a number below twice the modulus, cut
pub cut : (m x : ℕ) → x < m + m → ((x % m ≡ x) × (x < m)) ⊎ ((x % m + m ≡ x) × (m ≤ x))
cut m x h =
    elim (cases_lt x m) [
      | inl l ↦ inl (mod-eq_of_lt l, l)
      | inr g ↦ (
          let y : x - m + m ≡ x = omega arith in
          let e : x % m ≡ (x - m) % m = ap (λ z. z % m) (sym y) ∙ add-mod_right (x - m) m in
          let f : (x - m) % m ≡ x - m = mod-eq_of_lt (omega arith) in
          inr (omega arith, g))
    ]

pub add_zero : (w a c : ℕ) → a < 2 ^ w → c ≡ 0 → words.add w a c ≡ a
add_zero w a c h e = let f : a + c ≡ a = omega arith in rw f (mod-eq_of_lt h)

pub add_add : (w b o a : ℕ) → words.add w (words.add w b o) a ≡ words.add w b (words.add w o a)
add_add w b o a =
    let m = 2 ^ w in
    ap (λ z. z % m) (let e : (b + o) % m + a ≡ a + (b + o) % m = omega arith in e) ∙ add-mod-mod a (b + o) m
    ∙ ap (λ z. z % m) (let e : a + (b + o) ≡ b + (o + a) = omega arith in e) ∙ sym (add-mod-mod b (o + a) m)

-- a sum whose offsets cancel out
pub add_back : (w b o a : ℕ) → b < 2 ^ w → words.add w o a ≡ 0 → b ≡ words.add w (words.add w b o) a
add_back w b o a h e = sym (add_add w b o a ∙ add_zero w b (words.add w o a) h e)

-- the negative of a number, added
pub add_negative : (w a r : ℕ) → words.add w a (words.sub w 0 r) ≡ words.sub w a r
add_negative w a r =
    let m = 2 ^ w in
    add-mod-mod a (0 + (m - r)) m ∙ ap (λ z. z % m) (let e : a + (0 + (m - r)) ≡ a + (m - r) = omega arith in e)

-- tests that hold together
pub tests_same : (a b c d : ℕ) → (a ≡ b → c ≡ d) → (c ≡ d → a ≡ b) → (a == b) ≡ (c == d)
tests_same a b c d h k = grind (arith, nat_tests)

-- an offset on one side is one on the other
pub moved : (w b o r : ℕ) → b < 2 ^ w → o < 2 ^ w → r < 2 ^ w → (b == words.sub w r o) ≡ (words.add w b o == r)
moved w b o r p q l =
    let m = 2 ^ w in
    tests_same b (words.sub w r o) (words.add w b o) r
    (λ e.
    ap (λ z. words.add w z o) e
    ∙ ap (λ z. z % m) (let y : (r + (m - o)) % m + o ≡ o + (r + (m - o)) % m = omega arith in y)
    ∙ add-mod-mod o (r + (m - o)) m
    ∙ ap (λ z. z % m) (let y : o + (r + (m - o)) ≡ r + m = omega arith in y)
    ∙ add-mod_right r m ∙ mod-eq_of_lt l)
    (λ e. sym (
    ap (λ z. words.sub w z o) (sym e)
    ∙ ap (λ z. z % m) (let y : (b + o) % m + (m - o) ≡ (m - o) + (b + o) % m = omega arith in y)
    ∙ add-mod-mod (m - o) (b + o) m
    ∙ ap (λ z. z % m) (let y : (m - o) + (b + o) ≡ b + m = omega arith in y)
    ∙ add-mod_right b m ∙ mod-eq_of_lt p))

-- sums with one base are equal where their offsets are
pub same_sums : (w b o p : ℕ) → b < 2 ^ w → o < 2 ^ w → p < 2 ^ w → (o == p) ≡ (words.add w b o == words.add w b p)
same_sums w b o p h k l =
    tests_same o p (words.add w b o) (words.add w b p) (λ e. ap (words.add w b) e)
    (λ e.
    elim (cut (2 ^ w) (b + o) (omega arith)) [
      | inl u ↦ elim (cut (2 ^ w) (b + p) (omega arith)) [ inl v ↦ omega arith | inr v ↦ omega arith ]
      | inr u ↦ elim (cut (2 ^ w) (b + p) (omega arith)) [ inl v ↦ omega arith | inr v ↦ omega arith ]
    ])

pub sub_zero : (w a c : ℕ) → a < 2 ^ w → c ≡ 0 → words.sub w a c ≡ a
sub_zero w a c h e =
    let f : a + (2 ^ w - c) ≡ a + 2 ^ w = omega arith in
    ap (λ z. z % 2 ^ w) f ∙ add-mod_right a (2 ^ w) ∙ mod-eq_of_lt h

pub or_zero : (a c : ℕ) → c ≡ 0 → bit_or a c ≡ a
or_zero a c e = ap (bit_or a) e ∙ or_zero_r a

pub and_ones : (w a c : ℕ) → a < 2 ^ w → c ≡ 2 ^ w - 1 → bit_and a c ≡ a
and_ones w a c h e = ap (bit_and a) e ∙ (and_mask a w ∙ mod-eq_of_lt h)

pub or_ones : (w a c : ℕ) → a < 2 ^ w → c ≡ 2 ^ w - 1 → bit_or a c ≡ c
or_ones w a c h e = let p = pow_pos w in omega (arith, or_lt w a c h (omega arith), le_or_r a c)

-- an exclusive or with all ones turns each bit
pub xor_ones : (w a c : ℕ) → a < 2 ^ w → c ≡ 2 ^ w - 1 → words.complement w a ≡ bit_xor a c
xor_ones w a c h e = omega (arith, xor_add_and a c, and_ones w a c h e)

pub turned_twice : (w a b : ℕ) → a < 2 ^ w → b ≡ words.complement w a → a ≡ words.complement w b
turned_twice w a b h e = omega arith

-- a bit
pub bits : (P : ℕ → Type 0) → P 0 → P 1 → (n : ℕ) → n < 2 → P n
bits P p q zero h = p
bits P p q (suc zero) h = q
bits P p q (suc (suc n)) h = absurd (omega arith)

-- a bit is a constant above 1 nowhere
pub never : (d : Bool) (v r : ℕ) → v < 2 → 1 < r → words.bit d ≡ words.bit (words.differ d (v == r))
never d v r h k = let e : (v == r) ≡ false = grind (arith, nat_tests) in rw e (same d)
  where
    same : (d : Bool) → words.bit d ≡ words.bit (words.differ d false)
    same true = refl
    same false = refl

-- a bit, or its negation, is the test that it is a constant
pub bit_itself : (d : Bool) (v r : ℕ) → v < 2 → r ≤ 1 → (r == 1) ≡ not d → v ≡ words.bit (words.differ d (v == r))
bit_itself d v r h k e =
    bits (λ s. (s == 1) ≡ not d → v ≡ words.bit (words.differ d (v == s))) (λ t. zero_case d v h t) (λ t. one_case d v h t) r (omega arith) e
  where
    zero_case : (d : Bool) (v : ℕ) → v < 2 → (0 == 1) ≡ not d → v ≡ words.bit (words.differ d (v == 0))
    zero_case true v h t = bits (λ s. s ≡ words.bit (words.differ true (s == 0))) refl refl v h
    zero_case false v h t = absurd (false≢true t)

    one_case : (d : Bool) (v : ℕ) → v < 2 → (1 == 1) ≡ not d → v ≡ words.bit (words.differ d (v == 1))
    one_case true v h t = absurd (true≢false t)
    one_case false v h t = bits (λ s. s ≡ words.bit (words.differ false (s == 1))) refl refl v h

pub bit_turned : (d : Bool) (v r : ℕ) → v < 2 → r ≤ 1 → (r == 1) ≡ d → words.complement 1 v ≡ words.bit (words.differ d (v == r))
bit_turned d v r h k e =
    bits (λ s. (s == 1) ≡ d → words.complement 1 v ≡ words.bit (words.differ d (v == s))) (λ t. zero_case d v h t) (λ t. one_case d v h t) r (omega arith) e
  where
    zero_case : (d : Bool) (v : ℕ) → v < 2 → (0 == 1) ≡ d → words.complement 1 v ≡ words.bit (words.differ d (v == 0))
    zero_case false v h t = bits (λ s. words.complement 1 s ≡ words.bit (words.differ false (s == 0))) refl refl v h
    zero_case true v h t = absurd (false≢true t)

    one_case : (d : Bool) (v : ℕ) → v < 2 → (1 == 1) ≡ d → words.complement 1 v ≡ words.bit (words.differ d (v == 1))
    one_case false v h t = absurd (true≢false t)
    one_case true v h t = bits (λ s. words.complement 1 s ≡ words.bit (words.differ true (s == 1))) refl refl v h

-- conjunctions and disjunctions of bits
pub and_least : (p q : ℕ) → p < 2 → q < 2 → p ≤ q → p ≡ bit_and p q
and_least p q h k = bits (λ s. s ≤ q → s ≡ bit_and s q) (bits (λ t. 0 ≤ t → 0 ≡ bit_and 0 t) (λ l. refl) (λ l. refl) q k) (bits (λ t. 1 ≤ t →
    1 ≡ bit_and 1 t) (λ l. absurd (omega arith)) (λ l. refl) q k) p h

pub or_greatest : (p q : ℕ) → p < 2 → q < 2 → p ≤ q → q ≡ bit_or p q
or_greatest p q h k = bits (λ s. s ≤ q → q ≡ bit_or s q) (bits (λ t. 0 ≤ t → t ≡ bit_or 0 t) (λ l. refl) (λ l. refl) q k) (bits (λ t. 1 ≤ t →
    t ≡ bit_or 1 t) (λ l. absurd (omega arith)) (λ l. refl) q k) p h

pub and_apart : (p q : ℕ) → p < 2 → q < 2 → p + q ≤ 1 → 0 ≡ bit_and p q
and_apart p q h k = bits (λ s. s + q ≤ 1 → 0 ≡ bit_and s q) (bits (λ t. 0 + t ≤ 1 → 0 ≡ bit_and 0 t) (λ l. refl) (λ l. refl) q k) (bits (λ t. 1 + t ≤ 1 →
    0 ≡ bit_and 1 t) (λ l. refl) (λ l. absurd (omega arith)) q k) p h

pub or_apart : (p q m : ℕ) → p < 2 → q < 2 → m < 2 → p + q ≡ m → m ≡ bit_or p q
or_apart p q m h k l e = sym e ∙ bits (λ s. s + q < 2 → s + q ≡ bit_or s q) (bits (λ t. 0 + t < 2 →
    0 + t ≡ bit_or 0 t) (λ l. refl) (λ l. refl) q k) (bits (λ t. 1 + t < 2 → 1 + t ≡ bit_or 1 t) (λ l. refl) (λ l. absurd (omega arith)) q k) p h (omega arith)

-- a selection hangs on the side that is chosen
pub select_sides : (c a b x y : ℕ) → c < 2 → (c ≡ 1 → x ≡ a) → (c ≡ 0 → y ≡ b) → select c x y ≡ select c a b
select_sides zero a b x y h p q = q refl
select_sides (suc zero) a b x y h p q = p refl
select_sides (suc (suc c)) a b x y h p q = absurd (omega arith)

pub select_same : (c a b x : ℕ) → c < 2 → (c ≡ 1 → x ≡ a) → (c ≡ 0 → x ≡ b) → x ≡ select c a b
select_same zero a b x h p q = q refl
select_same (suc zero) a b x h p q = p refl
select_same (suc (suc c)) a b x h p q = absurd (omega arith)

pub select_turned : (u c a b : ℕ) → u < 2 → c ≡ words.complement 1 u → select u b a ≡ select c a b
select_turned u c a b h e = bits (λ s. select s b a ≡ select (words.complement 1 s) a b) refl refl u h ∙ ap (λ z. select z a b) (sym e)

pub select_bits : (c a b : ℕ) → c < 2 → a ≡ 1 → b ≡ 0 → c ≡ select c a b
select_bits c a b h p q = bits (λ s. s ≡ select s 1 0) refl refl c h ∙ ap (λ z. select c z 0) (sym p) ∙ ap (select c a) (sym q)

pub select_other_bits : (c a b : ℕ) → c < 2 → a ≡ 0 → b ≡ 1 → words.complement 1 c ≡ select c a b
select_other_bits c a b h p q = bits (λ s. words.complement 1 s ≡ select s 0 1) refl refl c h ∙ ap (λ z. select c z 1) (sym p) ∙ ap (select c a) (sym q)

-- all bits
pub whole : (hi lo v : ℕ) → lo ≡ 0 → v < 2 ^ (hi + 1 - lo) → v ≡ words.bits hi lo v
whole hi lo v e h = rw e (sym (ap (λ z. z % 2 ^ (hi + 1 - 0)) (div-one v) ∙ mod-eq_of_lt (rw e at h)))

-- bits of bits
pub bits_of_bits : (hi lo h l v : ℕ) → lo ≤ hi → hi + l ≤ h → words.bits hi lo (words.bits h l v) ≡ words.bits (hi + l) (lo + l) v
bits_of_bits hi lo h l v p q =
    let n = h + 1 - l in let j = hi + 1 - lo in let y = v / 2 ^ l in
    let e : n ≡ n - lo + lo = omega arith in
    let d : n - lo ≡ (n - lo - j) + j = omega arith in
    let k : hi + l + 1 - (lo + l) ≡ j = omega arith in
    let i : l + lo ≡ lo + l = omega arith in
    ap (λ z. y % 2 ^ z / 2 ^ lo % 2 ^ j) e ∙ ap (λ z. z % 2 ^ j) (field_of y (n - lo) lo)
    ∙ ap (λ z. y / 2 ^ lo % 2 ^ z % 2 ^ j) d ∙ mod-mod-pow (y / 2 ^ lo) (n - lo - j) j
    ∙ ap (λ z. z % 2 ^ j) (shr-shr v l lo) ∙ ap (λ z. v / 2 ^ z % 2 ^ j) i ∙ ap (λ z. v / 2 ^ (lo + l) % 2 ^ z) (sym k)

-- bits of the lower side of a concatenation
pub lower_bits : (hi lo w x y : ℕ) → lo ≤ hi → hi < w → words.bits hi lo (words.concat w x y) ≡ words.bits hi lo y
lower_bits hi lo w x y h k =
    let j = hi + 1 - lo in
    let e : w ≡ (j + lo) + (w - (j + lo)) = omega arith in
    let p : 2 ^ w ≡ 2 ^ (j + lo) * 2 ^ (w - (j + lo)) = ap (λ z. 2 ^ z) e ∙ pow-add 2 (j + lo) (w - (j + lo)) in
    let s : x * 2 ^ w + y ≡ y + 2 ^ (j + lo) * (2 ^ (w - (j + lo)) * x) = rw p (omega arith) in
    sym (field_of (x * 2 ^ w + y) j lo)
    ∙ (ap (λ z. z / 2 ^ lo) (ap (λ z. z % 2 ^ (j + lo)) s ∙ add-mul-mod_self_left y (2 ^ (j + lo)) (2 ^ (w - (j + lo)) * x))
    ∙ field_of y j lo)

-- bits of the upper side
pub upper_bits : (hi lo w x y : ℕ) → lo ≤ hi → w ≤ lo → y < 2 ^ w → words.bits hi lo (words.concat w x y) ≡ words.bits (hi - w) (lo - w) x
upper_bits hi lo w x y h k l =
    let e : lo ≡ w + (lo - w) = omega arith in
    let j : hi + 1 - lo ≡ hi - w + 1 - (lo - w) = omega arith in
    let d : (x * 2 ^ w + y) / 2 ^ w ≡ x = shr_high x w y l in
    let f : (x * 2 ^ w + y) / 2 ^ lo ≡ x / 2 ^ (lo - w) =
    ap (λ z. (x * 2 ^ w + y) / 2 ^ z) e ∙ (sym (shr-shr (x * 2 ^ w + y) w (lo - w)) ∙ ap (λ z. z / 2 ^ (lo - w)) d) in
    ap (λ z. z % 2 ^ (hi + 1 - lo)) f ∙ ap (λ z. x / 2 ^ (lo - w) % 2 ^ z) j

-- bits below an extension
pub extended_bits : (s : Bool) (hi lo n m v : ℕ) → lo ≤ hi → hi < n → n ≤ m → words.bits hi lo (extend s n m v) ≡ words.bits hi lo v
extended_bits false hi lo n m v h k l = refl
extended_bits true hi lo n m v h k l = signed (words.is_negative n v)
  where
    more : v + (2 ^ m - 2 ^ n) ≡ words.concat n (2 ^ (m - n) - 1) v
    more =
        let e : m ≡ (m - n) + n = omega arith in
        let p : 2 ^ m ≡ 2 ^ (m - n) * 2 ^ n = ap (λ z. 2 ^ z) e ∙ pow-add 2 (m - n) n in
        let q = pow_pos (m - n) in
        let r : (2 ^ (m - n) - 1) * 2 ^ n + 2 ^ n ≡ 2 ^ (m - n) * 2 ^ n = one_less (2 ^ (m - n)) (2 ^ n) q in
        omega arith
      where
        one_less : (a b : ℕ) → 0 < a → (a - 1) * b + b ≡ a * b
        one_less zero b h = absurd (omega arith)
        one_less (suc a) b h = let e : suc a - 1 ≡ a = omega arith in rw e (omega arith)

    signed : (b : Bool) → words.bits hi lo (if b then v + (2 ^ m - 2 ^ n) else v) ≡ words.bits hi lo v
    signed true = ap (words.bits hi lo) more ∙ lower_bits hi lo n (2 ^ (m - n) - 1) v h k
    signed false = refl

-- there are no bits above a word
pub no_bits : (hi lo n v : ℕ) → v < 2 ^ n → n ≤ lo → 0 ≡ words.bits hi lo v
no_bits hi lo n v h k =
    let p : 2 ^ n ≤ 2 ^ lo = pow-le-pow_right (omega arith) k in
    let q : v / 2 ^ lo ≡ 0 = div-eq_of_lt (omega arith) in
    let r = pow_pos (hi + 1 - lo) in
    sym (ap (λ z. z % 2 ^ (hi + 1 - lo)) q ∙ mod-eq_of_lt r)

-- neighbouring bits
pub joined_bits : (hi lo middle below v : ℕ) → lo ≤ below → middle ≡ below + 1 → middle ≤ hi →
    words.bits hi lo v ≡ words.concat (below + 1 - lo) (words.bits hi middle v) (words.bits below lo v)
joined_bits hi lo middle below v p e q =
    let k = below + 1 - lo in let j = hi + 1 - middle in let n = v / 2 ^ lo in
    let f : hi + 1 - lo ≡ j + k = omega arith in
    let i : lo + k ≡ middle = omega arith in
    ap (λ z. n % 2 ^ z) f ∙ mod-pow-add n j k ∙ ap (λ z. (z % 2 ^ j) * 2 ^ k + n % 2 ^ k) (shr-shr v lo k ∙ ap (λ z. v / 2 ^ z) i)

-- two tests that are unlike, or alike
pub unlike : (b d : Bool) → not (beq b d) ≡ true → b ≡ not d
unlike true true h = absurd (true≢false (sym h))
unlike true false h = refl
unlike false true h = refl
unlike false false h = absurd (true≢false (sym h))

pub alike : (b d : Bool) → not (beq b d) ≡ false → b ≡ d
alike true true h = refl
alike true false h = absurd (true≢false h)
alike false true h = absurd (true≢false h)
alike false false h = refl

pub unlike_is : (b d : Bool) → not (beq b d) ≡ words.differ d b
unlike_is true true = refl
unlike_is true false = refl
unlike_is false true = refl
unlike_is false false = refl

-- a literal's value is a bit
pub signed_below : (b : Bool) (n : ℕ) → n < 2 → signed_bit b n < 2
signed_below true n h = omega arith
signed_below false n h = h

-- two conjunctions that share a bit, and of which the other bits are each other's negation
pub rejoined_bits : (p q r : ℕ) → p < 2 → q < 2 → q + r ≡ 1 → bit_and p q + bit_and p r ≡ p
rejoined_bits p q r h k e =
    let f : r ≡ 1 - q = omega arith in
    ap (λ z. bit_and p q + bit_and p z) f
    ∙ bits (λ s. bit_and s q + bit_and s (1 - q) ≡ s) (bits (λ t. bit_and 0 t + bit_and 0 (1 - t) ≡ 0) refl refl q k) (bits
    (λ t. bit_and 1 t + bit_and 1 (1 - t) ≡ 1) refl refl q k) p h

-- what the conjunction of two bits says of one of them
pub and_one : (p q : ℕ) → p < 2 → q < 2 → bit_and p q ≡ 1 → q ≡ 1
and_one p q h k = bits (λ s. bit_and s q ≡ 1 → q ≡ 1) (bits (λ t. bit_and 0 t ≡ 1 →
    t ≡ 1) (λ e. absurd (omega arith)) (λ e. refl) q k) (bits (λ t. bit_and 1 t ≡ 1 → t ≡ 1) (λ e. absurd (omega arith)) (λ e. refl) q k) p h

pub and_none : (p q : ℕ) → p < 2 → q < 2 → p ≡ 1 → bit_and p q ≡ 0 → q ≡ 0
and_none p q h k e f = sym (bits (λ t. bit_and 1 t ≡ t) refl refl q k) ∙ ap (λ z. bit_and z q) (sym e) ∙ f

-- what a bit says of another beside it
pub or_beside : (p a b : ℕ) → p < 2 → b < 2 → p + a ≡ 1 → bit_or p b ≡ bit_or p (bit_and a b)
or_beside p a b h l e =
    let f : a ≡ 1 - p = omega arith in
    bits (λ s. bit_or s b ≡ bit_or s (bit_and (1 - s) b)) (bits (λ t. bit_or 0 t ≡ bit_or 0 (bit_and 1 t)) refl refl b l) (bits
    (λ t. bit_or 1 t ≡ bit_or 1 (bit_and 0 t)) refl refl b l) p h
    ∙ ap (λ z. bit_or p (bit_and z b)) (sym f)

pub and_beside : (p a b : ℕ) → p < 2 → b < 2 → p + a ≡ 1 → bit_and p b ≡ bit_and p (bit_or a b)
and_beside p a b h l e =
    let f : a ≡ 1 - p = omega arith in
    bits (λ s. bit_and s b ≡ bit_and s (bit_or (1 - s) b)) (bits (λ t. bit_and 0 t ≡ bit_and 0 (bit_or 1 t)) refl refl b l) (bits
    (λ t. bit_and 1 t ≡ bit_and 1 (bit_or 0 t)) refl refl b l) p h
    ∙ ap (λ z. bit_and p (bit_or z b)) (sym f)

pub and_with : (p b : ℕ) → p < 2 → b < 2 → bit_and p p ≡ bit_and p (bit_or p b)
and_with p b h l =
    bits (λ s. bit_and s s ≡ bit_and s (bit_or s b)) (bits (λ t. 0 ≡ bit_and 0 (bit_or 0 t)) refl refl b l) (bits
    (λ t. 1 ≡ bit_and 1 (bit_or 1 t)) refl refl b l) p h

pub and_denied : (p q : ℕ) → p < 2 → q < 2 → bit_and p (words.complement 1 q) ≡ bit_and p (words.complement 1 (bit_and p q))
and_denied p q h l =
    bits (λ s. bit_and s (words.complement 1 q) ≡ bit_and s (words.complement 1 (bit_and s q))) (bits
    (λ t. bit_and 0 (words.complement 1 t) ≡ bit_and 0 (words.complement 1 (bit_and 0 t))) refl refl q l)
    (bits (λ t. bit_and 1 (words.complement 1 t) ≡ bit_and 1 (words.complement 1 (bit_and 1 t))) refl refl q l) p h
