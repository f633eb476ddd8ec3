-- Shifts, one bit of the amount after another.
use Rattle.std.proofs.Common.{◌≡◌, ℕ, ◌+◌, ◌*◌, ◌^◌, ◌<◌, ◌≤◌, Bool, true, false, cond, List, [], ◌++◌, length, take, refl, sym, ◌∙◌, ap, arith, length-append, nat_lt, not, drop, replicate, min, ◌-◌, ◌/◌, ◌%◌, length-drop, length-take, ⊎_elim}
use Rattle.std.proofs.lemmas.List.{length-replicate, drop_all}
use Rattle.std.proofs.lemmas.List.Elements.{All-append, All-replicate, All-take}
use Rattle.std.proofs.Math.Nat.{pow-le-pow_right, div-eq_of_lt, mul-mod_left, mod-eq_of_lt}
use Rattle.std.proofs.lemmas.Nat.{mod-pow-add, pow-add, shl-shr, mul-mod_first, mod_below, shr_high, shr-shr, pow_pos, mul-le}
use Rattle.std.proofs.lemmas.Bool.{cases_lt, ltb-true, ltb-false}
use Rattle.word_spec.specs.Words.{bit, complement, is_negative, shl, shr, sar}
use Rattle.gates.specs.declared.bit.Bit.{Bit}
use Rattle.gates.specs.Circuits.{Within, bit_value, variable_of}
use Rattle.word_gates.specs.Numbers.{number, turned}
use Rattle.word_gates.proofs.Signs.{number_ones}
use Rattle.word_gates.proofs.Words.{number_split, number_take_below, number_append, number_take, number_drop, number_zeros, number_below}

pub far_shift : (a n k : ℕ) → a < 2 ^ n → n ≤ k → a / 2 ^ k ≡ 0
far_shift a n k h e =
    let p : 2 ^ n ≤ 2 ^ k = pow-le-pow_right (omega arith) e in
    let q : a < 2 ^ k = omega arith in
    div-eq_of_lt q

near_enough : (a n k m : ℕ) → a < 2 ^ n → m ≡ min k n → a / 2 ^ m ≡ a / 2 ^ k
near_enough a n k m h e =
    ⊎_elim
    (λ l. let f : m ≡ k = omega arith in ap (λ t. a / 2 ^ t) f)
    (λ l. let f : m ≡ n = omega arith in ap (λ t. a / 2 ^ t) f ∙ (far_shift a n n h (omega arith) ∙ sym (far_shift a n k h l)))
    (cases_lt k n)

shift_yes : (a m p w k : ℕ) → w ≡ a / 2 ^ m → k ≡ w / 2 ^ p → k ≡ a / 2 ^ (m + p * 1)
shift_yes a m p w k e f =
    let g : m + p * 1 ≡ m + p = omega arith in
    rw (g, f, e) (shr-shr a m p)

shift_no : (a m p w : ℕ) → w ≡ a / 2 ^ m → w ≡ a / 2 ^ (m + p * 0)
shift_no a m p w e = let g : m + p * 0 ≡ m = omega arith in rw g e

pub moved_length : (ls : List Bit) (m : ℕ) (z : Bit) → m ≤ length ls → length (drop m ls ++ replicate m z) ≡ length ls
moved_length ls m z h = omega (arith, length-append (drop m ls) (replicate m z), length-drop m ls, length-replicate m z)

pub shift_place : (a m p : ℕ) (x : Bool) (w k : ℕ) → w ≡ a / 2 ^ m → k ≡ w / 2 ^ p → cond x k w ≡ a / 2 ^ (m + p * bit x)
shift_place a m p true w k e f = shift_yes a m p w k e f
shift_place a m p false w k e f = shift_no a m p w e

far_yes : (a n h j l : ℕ) → a < 2 ^ n → (0 < h → n ≤ 2 ^ j) → 0 < h → 0 ≡ a / 2 ^ (h * 2 ^ j + l)
far_yes a n h j l e f g =
    let b : n ≤ 2 ^ j = f g in
    let m : 1 * 2 ^ j ≤ h * 2 ^ j = mul-le 1 (2 ^ j) h (2 ^ j) g (omega arith) in
    sym (far_shift a n (h * 2 ^ j + l) e (omega arith))

far_no : (a h j l w : ℕ) → h ≤ 0 → w ≡ a / 2 ^ l → w ≡ a / 2 ^ (h * 2 ^ j + l)
far_no a h j l w e g =
    let z : h ≡ 0 = omega arith in
    let f : h * 2 ^ j + l ≡ l = rw z (omega arith) in
    rw f g

gone : (x n k : ℕ) → n ≤ k → (x * 2 ^ k) % 2 ^ n ≡ 0
gone x n k h =
    let e : k ≡ (k - n) + n = omega arith in
    let p : 2 ^ k ≡ 2 ^ (k - n) * 2 ^ n = ap (λ t. 2 ^ t) e ∙ pow-add 2 (k - n) n in
    let q : x * (2 ^ (k - n) * 2 ^ n) ≡ x * 2 ^ (k - n) * 2 ^ n = omega arith in
    rw (p, q) (mul-mod_left (x * 2 ^ (k - n)) (2 ^ n))

left_near : (x n k : ℕ) → k ≤ n → 2 ^ k * (x % 2 ^ (n - k)) ≡ (x * 2 ^ k) % 2 ^ n
left_near x n k h =
    let e : n ≡ (n - k) + k = omega arith in
    let a : (x * 2 ^ k) % 2 ^ ((n - k) + k) ≡ (x * 2 ^ k) / 2 ^ k % 2 ^ (n - k) * 2 ^ k + (x * 2 ^ k) % 2 ^ k = mod-pow-add (x * 2 ^ k) (n - k) k in
    let b : (x * 2 ^ k) / 2 ^ k ≡ x = shl-shr x k in
    let c : (x * 2 ^ k) % 2 ^ k ≡ 0 = mul-mod_left x (2 ^ k) in
    let d : (x * 2 ^ k) % 2 ^ ((n - k) + k) ≡ x % 2 ^ (n - k) * 2 ^ k + 0 = rw (b, c) at a in
    omega (arith, d, ap (λ t. (x * 2 ^ k) % 2 ^ t) e)

left_far : (x n k : ℕ) → n ≤ k → 2 ^ n * (x % 2 ^ (n - n)) ≡ (x * 2 ^ k) % 2 ^ n
left_far x n k h =
    let e : n - n ≡ 0 = omega arith in
    let l : x % 2 ^ 0 < 2 ^ 0 = mod_below x (2 ^ 0) (pow_pos 0) in
    let z : x % 2 ^ 0 ≡ 0 = omega arith in
    rw (e, z, gone x n k h) (omega arith)

left_enough : (x n k m : ℕ) → m ≡ min k n → 2 ^ m * (x % 2 ^ (n - m)) ≡ (x * 2 ^ k) % 2 ^ n
left_enough x n k m e =
    ⊎_elim
    (λ l. let f : m ≡ k = omega arith in rw f (left_near x n k (omega arith)))
    (λ l. let f : m ≡ n = omega arith in rw f (left_far x n k l))
    (cases_lt k n)

pub left_value : (v : ℕ → Bool) (ls : List Bit) (k m : ℕ) (z : Bit) → bit_value v z ≡ false → m ≡ min k (length ls) →
    number v (replicate m z ++ take (length ls - m) ls) ≡ (number v ls * 2 ^ k) % 2 ^ length ls
left_value v ls k m z h e =
    let r : length (replicate m z) ≡ m = length-replicate m z in
    let t : number v (take (length ls - m) ls) ≡ number v ls % 2 ^ (length ls - m) = number_take v ls (length ls - m) (omega arith) in
    rw (number_append, number_zeros v z m h, r, t) (omega (arith, left_enough (number v ls) (length ls) k m e))

pub left_length : (ls : List Bit) (m : ℕ) (z : Bit) → m ≤ length ls → length (replicate m z ++ take (length ls - m) ls) ≡ length ls
left_length ls m z h = omega (arith, length-append (replicate m z) (take (length ls - m) ls), length-take (length ls - m) ls, length-replicate m z)

left_yes : (a m p n w k : ℕ) → w ≡ (a * 2 ^ m) % n → k ≡ (w * 2 ^ p) % n → k ≡ (a * 2 ^ (m + p * 1)) % n
left_yes a m p n w k e f =
    let g : m + p * 1 ≡ m + p = omega arith in
    let q : a * 2 ^ m * 2 ^ p ≡ a * (2 ^ m * 2 ^ p) = omega arith in
    rw (g, f, e, mul-mod_first (a * 2 ^ m) (2 ^ p) n, pow-add 2 m p, q) refl

left_no : (a m p n w : ℕ) → w ≡ (a * 2 ^ m) % n → w ≡ (a * 2 ^ (m + p * 0)) % n
left_no a m p n w e = let g : m + p * 0 ≡ m = omega arith in rw g e

pub left_place : (a m p n : ℕ) (x : Bool) (w k : ℕ) → w ≡ (a * 2 ^ m) % n → k ≡ (w * 2 ^ p) % n → cond x k w ≡ (a * 2 ^ (m + p * bit x)) % n
left_place a m p n true w k e f = left_yes a m p n w k e f
left_place a m p n false w k e f = left_no a m p n w e

left_far_yes : (a n h j l : ℕ) → (0 < h → n ≤ 2 ^ j) → 0 < h → 0 ≡ (a * 2 ^ (h * 2 ^ j + l)) % 2 ^ n
left_far_yes a n h j l f g =
    let b : n ≤ 2 ^ j = f g in
    let m : 1 * 2 ^ j ≤ h * 2 ^ j = mul-le 1 (2 ^ j) h (2 ^ j) g (omega arith) in
    sym (gone a n (h * 2 ^ j + l) (omega arith))

left_far_no : (a h j l n w : ℕ) → h ≤ 0 → w ≡ (a * 2 ^ l) % n → w ≡ (a * 2 ^ (h * 2 ^ j + l)) % n
left_far_no a h j l n w e g =
    let z : h ≡ 0 = omega arith in
    let f : h * 2 ^ j + l ≡ l = rw z (omega arith) in
    rw f g

left_far_cases : (a n h j l w : ℕ) (b : Bool) → (0 < h → n ≤ 2 ^ j) → w ≡ (a * 2 ^ l) % 2 ^ n → nat_lt 0 h ≡ b →
    cond (not b) w 0 ≡ (a * 2 ^ (h * 2 ^ j + l)) % 2 ^ n
left_far_cases a n h j l w true f g t = left_far_yes a n h j l f (ltb-true 0 h t)
left_far_cases a n h j l w false f g t = left_far_no a h j l (2 ^ n) w (ltb-false 0 h t) g

pub shift_left_far : (a n h j l w : ℕ) → (0 < h → n ≤ 2 ^ j) → w ≡ (a * 2 ^ l) % 2 ^ n → cond (not (nat_lt 0 h)) w 0 ≡ (a * 2 ^ (h * 2 ^ j + l)) % 2 ^ n
shift_left_far a n h j l w f g = left_far_cases a n h j l w (nat_lt 0 h) f g refl

pub left_within : {n : ℕ} {ls : List Bit} (m k : ℕ) (z : Bit) → Within n ls → variable_of z < n → Within n (replicate m z ++ take k ls)
left_within {n} {ls} m k z w h = record {
  each = All-append (λ (l : Bit). variable_of l
      < n) (replicate m z) (take k ls) (All-replicate (λ (l : Bit). variable_of l < n) m z h) (All-take (λ (l : Bit). variable_of l < n) k ls w.each);
}

pub left_none : (v : ℕ → Bool) (ls : List Bit) → number v ls ≡ (number v ls * 1) % 2 ^ length ls
left_none v ls = let e : number v ls * 1 ≡ number v ls = omega arith in rw e (sym (mod-eq_of_lt (number_below v ls)))

pub moved_value : (v : ℕ → Bool) (ls : List Bit) (k m : ℕ) (z : Bit) → bit_value v z ≡ false → m ≡ min k (length ls) →
    number v (drop m ls ++ replicate m z) ≡ number v ls / 2 ^ k
moved_value v ls k m z h e =
    let a : number v (drop m ls ++ replicate m z) ≡ number v (drop m ls) + 2 ^ length (drop m ls) * number v (replicate m z) = number_append v (drop m ls)
    (replicate m z) in
    let b : number v (drop m ls ++ replicate m z) ≡ number v (drop m ls) = rw (number_zeros v z m h) at a ∙ omega arith in
    let c : number v (drop m ls) ≡ number v ls / 2 ^ m = number_drop v ls m (omega arith) in
    b ∙ (c ∙ near_enough (number v ls) (length ls) k m (number_below v ls) e)

-- ---- with a fill: what is turned where the fill is true is shifted as with zeros

turned_zeros : (v : ℕ → Bool) (ls : List Bit) (k m : ℕ) (z : Bit) → bit_value v z ≡ false → m ≡ min k (length ls) →
    turned (length ls) false (number v (drop m ls ++ replicate m z)) ≡ turned (length ls) false (number v ls) / 2 ^ k
turned_zeros v ls k m z h e = moved_value v ls k m z h e

ones_left : (n m w d r t p : ℕ) → w ≡ d * p + r → r < p → t * p ≡ n → d < t → (n - 1 - w) ≡ (t - 1 - d) * p + (p - 1 - r)
ones_left n m w d r t p e h f l =
    let a : (t - 1 - d) * p + d * p + p ≡ t * p = (let g : (t - 1 - d) + d + 1 ≡ t = omega arith in let i : ((t - 1 - d) + d + 1) * p
    ≡ t * p = ap (λ y. y * p) g in omega (arith, i)) in
    omega arith

turned_ones : (v : ℕ → Bool) (ls : List Bit) (n k m : ℕ) (z : Bit) → bit_value v z ≡ true → length ls ≡ n → m ≡ min k n →
    turned n true (number v (drop m ls ++ replicate m z)) ≡ turned n true (number v ls) / 2 ^ k
turned_ones v ls n k m z h l e =
    let w = number v ls in
    let d = number v (drop m ls) in
    let r = number v (take m ls) in
    let lm : m ≤ length ls = omega arith in
    let s : w ≡ d * 2 ^ m + r = number_split v ls m lm in
    let rb : r < 2 ^ m = number_take_below v ls m lm in
    let dl : length (drop m ls) ≡ n - m = omega (arith, length-drop m ls) in
    let db : d < 2 ^ (n - m) = let f = number_below v (drop m ls) in rw dl at f in
    let f : n ≡ (n - m) + m = omega arith in
    let p : 2 ^ (n - m) * 2 ^ m ≡ 2 ^ n = sym (ap (λ t. 2 ^ t) f ∙ pow-add 2 (n - m) m) in
    let a : number v (drop m ls ++ replicate m z) ≡ d + 2 ^ (n - m) * number v (replicate m z) = number_append v (drop m ls) (replicate m z) ∙ ap
    (λ t. d + 2 ^ t * number v (replicate m z)) dl in
    let o : number v (replicate m z) + 1 ≡ 2 ^ m = number_ones v z m h in
    let b : 2 ^ (n - m) * number v (replicate m z) + 2 ^ (n - m)
    ≡ 2 ^ n = (let g : 2 ^ (n - m) * (number v (replicate m z) + 1) ≡ 2 ^ (n - m) * 2 ^ m = ap (λ t. 2 ^ (n - m) * t) o in omega (arith, g, p)) in
    let c : turned n true (number v (drop m ls ++ replicate m z)) ≡ 2 ^ (n - m) - 1 - d = rw a (omega arith) in
    let g : 2 ^ n - 1 - w ≡ (2 ^ (n - m) - 1 - d) * 2 ^ m + (2 ^ m - 1 - r) = ones_left (2 ^ n) m w d r (2 ^ (n - m)) (2 ^ m) s rb p db in
    let y : 2 ^ m - 1 - r < 2 ^ m = omega arith in
    let i : (2 ^ n - 1 - w) / 2 ^ m ≡ 2 ^ (n - m) - 1 - d = rw g (shr_high (2 ^ (n - m) - 1 - d) m (2 ^ m - 1 - r) y) in
    let q : 0 < 2 ^ n = pow_pos n in
    let u : 2 ^ n - 1 - w < 2 ^ n = omega arith in
    c ∙ (sym i ∙ near_enough (2 ^ n - 1 - w) n k m u e)

turned_cases : (v : ℕ → Bool) (ls : List Bit) (k m : ℕ) (z : Bit) (x : Bool) → bit_value v z ≡ x → m ≡ min k (length ls) →
    turned (length ls) x (number v (drop m ls ++ replicate m z)) ≡ turned (length ls) x (number v ls) / 2 ^ k
turned_cases v ls k m z true h e = turned_ones v ls (length ls) k m z h refl e
turned_cases v ls k m z false h e = turned_zeros v ls k m z h e

pub turned_moved : (v : ℕ → Bool) (ls : List Bit) (n k m : ℕ) (z : Bit) → length ls ≡ n → m ≡ min k n →
    turned n (bit_value v z) (number v (drop m ls ++ replicate m z)) ≡ turned n (bit_value v z) (number v ls) / 2 ^ k
turned_moved v ls n k m z l e = let r = turned_cases v ls k m z (bit_value v z) refl (rw (← l) at e) in rw l at r

pub turned_choice : (n : ℕ) (x c : Bool) (a b : ℕ) → turned n x (cond c a b) ≡ cond c (turned n x a) (turned n x b)
turned_choice n x true a b = refl
turned_choice n x false a b = refl

ones_none : (n w : ℕ) → w + 1 ≡ 2 ^ n → 0 ≡ complement n w
ones_none n w e = omega arith

filled_cases : (v : ℕ → Bool) (n : ℕ) (z : Bit) (x : Bool) → bit_value v z ≡ x → 0 ≡ turned n x (number v (replicate n z))
filled_cases v n z true h = ones_none n _ (number_ones v z n h)
filled_cases v n z false h = sym (number_zeros v z n h)

pub turned_filled : (v : ℕ → Bool) (n : ℕ) (z : Bit) → turned n (bit_value v z) (number v (replicate n z)) ≡ 0
turned_filled v n z = sym (filled_cases v n z (bit_value v z) refl)

complement_below : (n a : ℕ) → complement n a < 2 ^ n
complement_below n a = let q = pow_pos n in omega arith

turned_below : (n : ℕ) (x : Bool) (a : ℕ) → a < 2 ^ n → turned n x a < 2 ^ n
turned_below n true a h = complement_below n a
turned_below n false a h = h

filled_far_cases : (a n h j l w : ℕ) (b : Bool) → a < 2 ^ n → (0 < h → n ≤ 2 ^ j) → w ≡ a / 2 ^ l → nat_lt 0 h ≡ b → cond b 0 w ≡ a / 2 ^ (h * 2 ^ j + l)
filled_far_cases a n h j l w true e f g t = far_yes a n h j l e f (ltb-true 0 h t)
filled_far_cases a n h j l w false e f g t = far_no a h j l w (ltb-false 0 h t) g

-- h is the part of the amount from the place j on, and l the part below
pub filled_far : (a n h j l w : ℕ) (x : Bool) → a < 2 ^ n → (0 < h → n ≤ 2 ^ j) → w ≡ turned n x a / 2 ^ l →
    cond (nat_lt 0 h) 0 w ≡ turned n x a / 2 ^ (h * 2 ^ j + l)
filled_far a n h j l w x e f g = filled_far_cases (turned n x a) n h j l w (nat_lt 0 h) (turned_below n x a e) f g refl

-- ---- the definitions' shifts

right_enough : (a n b : ℕ) → a < 2 ^ n → a / 2 ^ b ≡ a / 2 ^ min b n
right_enough a n b h = sym (near_enough a n b (min b n) h refl)

pub shr_from : (a n b w : ℕ) → a < 2 ^ n → w ≡ a / 2 ^ b → w ≡ shr n a b
shr_from a n b w h e = e ∙ right_enough a n b h

unturned : (n w a b : ℕ) → w < 2 ^ n → complement n w ≡ complement n a / 2 ^ b → w ≡ complement n (complement n a / 2 ^ min b n)
unturned n w a b h e =
    let f : complement n w ≡ complement n a / 2 ^ min b n = e ∙ right_enough (complement n a) n b (complement_below n a) in
    let g : w ≡ complement n (complement n w) = omega arith in
    g ∙ ap (complement n) f

sar_cases : (a n b w : ℕ) (x : Bool) → a < 2 ^ n → w < 2 ^ n → is_negative n a ≡ x → turned n x w ≡ turned n x a / 2 ^ b → w ≡ sar n a b
sar_cases a n b w true h k i e = rw i (unturned n w a b k e)
sar_cases a n b w false h k i e = rw i (shr_from a n b w h e)

pub sar_from : (a n b w : ℕ) (x : Bool) → a < 2 ^ n → w < 2 ^ n → x ≡ is_negative n a → turned n x w ≡ turned n x a / 2 ^ b → w ≡ sar n a b
sar_from a n b w x h k i e = sar_cases a n b w x h k (sym i) e

pub shl_from : (a n b w : ℕ) → w ≡ (a * 2 ^ b) % 2 ^ n → w ≡ shl n a b
shl_from a n b w e =
    ⊎_elim
    (λ l. let f : min b n ≡ b = omega arith in rw f e)
    (λ l. let f : min b n ≡ n = omega arith in rw f (e ∙ (gone a n b l ∙ sym (mul-mod_left a (2 ^ n)))))
    (cases_lt b n)

pub few_stages : (v : ℕ → Bool) (s : List Bit) (k t n : ℕ) → k ≡ min t (length s) → n ≤ 2 ^ t → 0 < number v (drop k s) → n ≤ 2 ^ k
few_stages v s k t n e h p =
    ⊎_elim
    (λ l. let f : k ≡ t = omega arith in rw f h)
    (λ l. let d : drop k s ≡ [] = drop_all k s (omega arith) in let z : number v (drop k s) ≡ 0 = ap (number v) d in absurd (omega arith))
    (cases_lt t (length s))

pub none_moved : (a : ℕ) → a ≡ a / 1
none_moved a = omega arith
