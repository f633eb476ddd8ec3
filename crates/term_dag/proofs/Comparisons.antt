-- Comparisons that are decided by one side.
use Rattle.std.proofs.Common.{◌≡◌, ◌≢◌, ℕ, ◌-◌, ◌^◌, ◌<◌, true, false, refl, arith}
use Rattle.std.specs.Prelude.{nat_lt, nat_le}
use Rattle.std.proofs.lemmas.Bool.Decides.{nat_tests}
use Rattle.word_spec.specs.Words as words

pub below_none : (v r : ℕ) → r ≡ 0 → words.bit false ≡ words.bit (nat_lt v r)
below_none v r e = let t : nat_lt v r ≡ false = grind (arith, nat_tests) in rw t refl

pub bit_below_more : (v b r : ℕ) → v ≡ b → b < 2 → r ≢ 0 → r ≢ 1 → words.bit true ≡ words.bit (nat_lt v r)
bit_below_more v b r e h p q = let t : nat_lt v r ≡ true = grind (arith, nat_tests) in rw t refl

pub above_all : (w v l : ℕ) → v < 2 ^ w → l ≡ 2 ^ w - 1 → words.bit false ≡ words.bit (nat_lt l v)
above_all w v l h e = let t : nat_lt l v ≡ false = grind (arith, nat_tests) in rw t refl

pub bit_not_above : (v b l : ℕ) → v ≡ b → b < 2 → l ≢ 0 → words.bit false ≡ words.bit (nat_lt l v)
bit_not_above v b l e h p = let t : nat_lt l v ≡ false = grind (arith, nat_tests) in rw t refl

pub least_of_all : (v l : ℕ) → l ≡ 0 → words.bit true ≡ words.bit (nat_le l v)
least_of_all v l e = let t : nat_le l v ≡ true = grind (arith, nat_tests) in rw t refl

pub greatest_of_all : (w v r : ℕ) → v < 2 ^ w → r ≡ 2 ^ w - 1 → words.bit true ≡ words.bit (nat_le v r)
greatest_of_all w v r h e = let t : nat_le v r ≡ true = grind (arith, nat_tests) in rw t refl
