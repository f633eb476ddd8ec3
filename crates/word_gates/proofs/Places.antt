-- One place of a word, of weight p: m and n are what stands below.
use Rattle.std.proofs.Common.{◌≡◌, ℕ, ◌+◌, ◌*◌, ◌<◌, ◌≤◌, Bool, true, false, cond, List, length, refl, ap, arith, ◌==◌, nat_lt, ◌&&◌, ◌||◌, not, drop, ◌%◌}
use Rattle.std.proofs.lemmas.List.{drop_all}
use Rattle.std.proofs.Math.Nat.{mod-eq_of_lt, add-mul-mod_self_left}
use Rattle.std.proofs.lemmas.Bool.Decides.{nat_tests}
use Rattle.word_spec.specs.Words.{bit, differ}
use Rattle.gates.specs.declared.bit.Bit.{Bit}
use Rattle.gates.specs.Circuits.{majority, same}
use Rattle.word_gates.specs.Numbers.{number}

-- one place of a sum
pub full_adder : (a b c : Bool) → bit (differ (differ a b) c) + 2 * bit (majority a b c) ≡ bit a + bit b + bit c
full_adder true true true = refl
full_adder true true false = refl
full_adder true false true = refl
full_adder true false false = refl
full_adder false true true = refl
full_adder false true false = refl
full_adder false false true = refl
full_adder false false false = refl

equal_tt : (p m n : ℕ) → m < p → n < p → ((m + p * 1) == (n + p * 1)) ≡ ((m == n) && true)
equal_tt p m n h k = grind (arith, nat_tests)

less_tt : (p m n : ℕ) → m < p → n < p → nat_lt (m + p * 1) (n + p * 1) ≡ nat_lt m n
less_tt p m n h k = grind (arith, nat_tests)

less_tf : (p m n : ℕ) → m < p → n < p → nat_lt (m + p * 1) (n + p * 0) ≡ false
less_tf p m n h k = grind (arith, nat_tests)

less_ft : (p m n : ℕ) → m < p → n < p → nat_lt (m + p * 0) (n + p * 1) ≡ true
less_ft p m n h k = grind (arith, nat_tests)

less_ff : (p m n : ℕ) → m < p → n < p → nat_lt (m + p * 0) (n + p * 0) ≡ nat_lt m n
less_ff p m n h k = grind (arith, nat_tests)

pub less_place : (p m n : ℕ) (x y : Bool) → m < p → n < p → nat_lt (m + p * bit x) (n + p * bit y) ≡ majority (not x) y (nat_lt m n)
less_place p m n true true h k = less_tt p m n h k
less_place p m n true false h k = less_tf p m n h k
less_place p m n false true h k = less_ft p m n h k
less_place p m n false false h k = less_ff p m n h k

pub choice_place : (p m n a : ℕ) (c x y : Bool) → a ≡ cond c m n → a + p * bit (cond c x y) ≡ cond c (m + p * bit x) (n + p * bit y)
choice_place p m n a true x y e = ap (λ t. t + p * bit x) e
choice_place p m n a false x y e = ap (λ t. t + p * bit y) e

any_t : (p m : ℕ) → 0 < p → nat_lt 0 (m + p * 1) ≡ (nat_lt 0 m || true)
any_t p m h = grind (arith, nat_tests)

any_f : (p m : ℕ) → 0 < p → nat_lt 0 (m + p * 0) ≡ (nat_lt 0 m || false)
any_f p m h = grind (arith, nat_tests)

pub any_place : (p m : ℕ) (x : Bool) → 0 < p → nat_lt 0 (m + p * bit x) ≡ (nat_lt 0 m || x)
any_place p m true h = any_t p m h
any_place p m false h = any_f p m h

masked_f : (p a : ℕ) → a ≡ 0 → a + p * 0 ≡ 0
masked_f p a e = omega arith

pub masked_place : (p m a : ℕ) (c x : Bool) → a ≡ cond c m 0 → a + p * bit (c && x) ≡ cond c (m + p * bit x) 0
masked_place p m a true x e = ap (λ t. t + p * bit x) e
masked_place p m a false x e = masked_f p a e

not_t : (p m n : ℕ) → m + n + 1 ≡ p → (m + p * 0) + (n + p * 1) + 1 ≡ 2 * p
not_t p m n h = omega arith

not_f : (p m n : ℕ) → m + n + 1 ≡ p → (m + p * 1) + (n + p * 0) + 1 ≡ 2 * p
not_f p m n h = omega arith

pub not_place : (p m n : ℕ) (x : Bool) → m + n + 1 ≡ p → (m + p * bit (not x)) + (n + p * bit x) + 1 ≡ 2 * p
not_place p m n true h = not_t p m n h
not_place p m n false h = not_f p m n h

flip_up : (p m : ℕ) → m < p → m + p * 1 ≡ (m + p * 0 + p) % (2 * p)
flip_up p m h = let a : m + p * 0 + p < 2 * p = omega arith in omega (arith, mod-eq_of_lt a)

flip_down : (p m : ℕ) → m < p → m + p * 0 ≡ (m + p * 1 + p) % (2 * p)
flip_down p m h =
    let a : m < 2 * p = omega arith in
    let e : m + p * 1 + p ≡ m + 2 * p * 1 = omega arith in
    rw (e, add-mul-mod_self_left m (2 * p) 1) (omega (arith, mod-eq_of_lt a))

pub flip_place : (p m : ℕ) (x : Bool) → m < p → m + p * bit (not x) ≡ (m + p * bit x + p) % (2 * p)
flip_place p m true h = flip_down p m h
flip_place p m false h = flip_up p m h

-- one more place below the others
above_tt : (m n : ℕ) → ((1 + 2 * m) == (1 + 2 * n)) ≡ ((m == n) && true)
above_tt m n = grind (arith, nat_tests)

above_tf : (m n : ℕ) → ((1 + 2 * m) == (0 + 2 * n)) ≡ ((m == n) && false)
above_tf m n = grind (arith, nat_tests)

above_ft : (m n : ℕ) → ((0 + 2 * m) == (1 + 2 * n)) ≡ ((m == n) && false)
above_ft m n = grind (arith, nat_tests)

above_ff : (m n : ℕ) → ((0 + 2 * m) == (0 + 2 * n)) ≡ ((m == n) && true)
above_ff m n = grind (arith, nat_tests)

pub equal_above : (x y : Bool) (m n : ℕ) → ((bit x + 2 * m) == (bit y + 2 * n)) ≡ same (m == n) x y
equal_above true true m n = above_tt m n
equal_above true false m n = above_tf m n
equal_above false true m n = above_ft m n
equal_above false false m n = above_ff m n

pub equal_none : (v : ℕ → Bool) (a b : List Bit) (k : ℕ) → length a ≤ k → length b ≤ k → true ≡ (number v (drop k a) == number v (drop k b))
equal_none v a b k ha hb = rw (drop_all k a ha, drop_all k b hb) refl

pub equal_all : (v : ℕ → Bool) (a b : List Bit) (k : ℕ) → k ≡ 0 → (number v (drop k a) == number v (drop k b)) ≡ (number v a == number v b)
equal_all v a b k e = ap (λ t. number v (drop t a) == number v (drop t b)) e
