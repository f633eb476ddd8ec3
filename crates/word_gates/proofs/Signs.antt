-- Words with a sign, and longer words.
use Rattle.std.proofs.Common.{◌≡◌, ℕ, suc, zero, ◌+◌, ◌*◌, ◌^◌, ◌<◌, ◌≤◌, Bool, true, false, cond, List, ◌++◌, length, take, get_or, refl, ◌∙◌, ap, arith, drop, replicate, ◌-◌, length-drop}
use Rattle.std.proofs.lemmas.List.{take_all}
use Rattle.std.proofs.Math.Nat.{pow-suc}
use Rattle.std.proofs.lemmas.Nat.{pow-add}
use Rattle.std.proofs.lemmas.Bool.Decides.{nat_tests}
use Rattle.word_spec.specs.Words.{bit, is_negative, sign_extend, bits, concat}
use Rattle.gates.specs.declared.bit.Bit.{Bit}
use Rattle.gates.specs.Circuits.{bit_value}
use Rattle.word_gates.specs.Numbers.{number, digit}
use Rattle.std.specs.Prelude.{nat_le}
use Rattle.word_gates.proofs.Words.{no_bit, number_take_below, number_append, number_drop, number_take, number_top, number_zeros}

high : (p m : ℕ) → m < p → true ≡ nat_le p (m + p * 1)
high p m h = grind (arith, nat_tests)

low : (p m : ℕ) → m < p → false ≡ nat_le p (m + p * 0)
low p m h = grind (arith, nat_tests)

sign_place : (p m : ℕ) (x : Bool) → m < p → x ≡ nat_le p (m + p * bit x)
sign_place p m true h = high p m h
sign_place p m false h = low p m h

pub sign_bit : (v : ℕ → Bool) (ls : List Bit) (n : ℕ) → 0 < n → length ls ≡ n → bit_value v (get_or ls (n - 1) no_bit) ≡ is_negative n (number v ls)
sign_bit v ls n h e = rw (number_top v ls (n - 1) (omega arith))
    (sign_place (2 ^ (n - 1)) (number v (take (n - 1) ls)) _ (number_take_below v ls (n - 1) (omega arith)))

-- ---- longer words

pub number_ones : (v : ℕ → Bool) (z : Bit) (k : ℕ) → bit_value v z ≡ true → number v (replicate k z) + 1 ≡ 2 ^ k
number_ones v z zero h = refl
number_ones v z (suc k) h =
    let e : digit v z ≡ 1 = ap bit h in
    let i = number_ones v z k h in
    let p : 2 ^ suc k ≡ 2 * 2 ^ k = grind (arith, pow-suc 2 k) in
    rw (e, p) (omega arith)

-- what `resize` leaves of a word that grows
longer : (v : ℕ → Bool) (ls : List Bit) (w : ℕ) (z : Bit) → length ls ≤ w →
    number v (take w ls ++ replicate (w - length ls) z) ≡ number v ls + 2 ^ length ls * number v (replicate (w - length ls) z)
longer v ls w z h = rw (take_all w ls h) (number_append v ls (replicate (w - length ls) z))

pub zero_extended : (v : ℕ → Bool) (ls : List Bit) (w k : ℕ) (z : Bit) → k ≡ length ls → length ls ≤ w → bit_value v z ≡ false →
    number v (take w ls ++ replicate (w - k) z) ≡ number v ls
zero_extended v ls w k z l h e = let n = number_zeros v z (w - length ls) e in rw l (longer v ls w z h ∙ rw n (omega arith))

spread : (p a r m : ℕ) → r + 1 ≡ m → a + p * r ≡ a + (m * p - p)
spread p a r m e = let f : m * p ≡ p * r + p = rw (← e) (omega arith) in omega arith

negative_extended : (v : ℕ → Bool) (ls : List Bit) (n w : ℕ) (z : Bit) → length ls ≡ n → n ≤ w → bit_value v z ≡ true →
    number v ls + 2 ^ n * number v (replicate (w - n) z) ≡ number v ls + (2 ^ w - 2 ^ n)
negative_extended v ls n w z l h e =
    let o = number_ones v z (w - n) e in
    let s : w ≡ (w - n) + n = omega arith in
    let p : 2 ^ w ≡ 2 ^ (w - n) * 2 ^ n = ap (λ t. 2 ^ t) s ∙ pow-add 2 (w - n) n in
    rw p (spread (2 ^ n) (number v ls) (number v (replicate (w - n) z)) (2 ^ (w - n)) o)

sign_cases : (v : ℕ → Bool) (ls : List Bit) (w : ℕ) (z : Bit) (b : Bool) → length ls ≤ w → bit_value v z ≡ b →
    number v ls + 2 ^ length ls * number v (replicate (w - length ls) z) ≡ cond b (number v ls + (2 ^ w - 2 ^ length ls)) (number v ls)
sign_cases v ls w z true h e = negative_extended v ls (length ls) w z refl h e
sign_cases v ls w z false h e = let n = number_zeros v z (w - length ls) e in rw n (omega arith)

pub sign_extended : (v : ℕ → Bool) (ls : List Bit) (w k : ℕ) (z : Bit) → k ≡ length ls → 0 < length ls → length ls ≤ w → z ≡ get_or ls (length ls - 1) no_bit →
    number v (take w ls ++ replicate (w - k) z) ≡ sign_extend (length ls) w (number v ls)
sign_extended v ls w k z l o h e =
    rw l
    (longer v ls w z h ∙ sign_cases v ls w z (is_negative (length ls) (number v ls)) h (ap (bit_value v) e ∙ sign_bit v ls (length ls) o refl))

pub extracted : (v : ℕ → Bool) (ls : List Bit) (hi lo : ℕ) → lo ≤ hi → hi < length ls → number v (take (hi + 1 - lo) (drop lo ls)) ≡ bits hi lo (number v ls)
extracted v ls hi lo o h =
    let k : hi + 1 - lo ≤ length (drop lo ls) = omega (arith, length-drop lo ls) in
    rw (number_take v (drop lo ls) (hi + 1 - lo) k, number_drop v ls lo (omega arith)) refl

pub concatenated : (v : ℕ → Bool) (a b : List Bit) → number v (b ++ a) ≡ concat (length b) (number v a) (number v b)
concatenated v a b = rw (number_append v b a) (omega arith)
