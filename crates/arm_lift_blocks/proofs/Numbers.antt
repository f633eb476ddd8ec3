-- Addresses of words, and the value that nobody knows.
use Rattle.std.proofs.Common.{◌≡◌, ℕ, zero, suc, ◌/◌, ◌%◌, ◌^◌, ◌<◌, ◌≤◌, refl, ap, ◌∙◌, arith, bit_and}
use Rattle.std.specs.Prelude.{◌==◌, if◌then◌else◌}
use Rattle.std.proofs.lemmas.Nat.Bits.{and_high_mask}
use Rattle.word_spec.specs.Words.{add, sub, aligned}
use Rattle.machine_spec.specs.Arm.{has_bit}
use Rattle.machine_spec.specs.BilMeaning.{Word, choose}

-- the multiple of 4 below a word
masked : (x : ℕ) → x < 2 ^ 32 → bit_and x 0xfffffffc ≡ aligned x
masked x h = and_high_mask 32 2 (omega arith) x h ∙ omega arith

-- the address of a word
pub address_is : (x d v : ℕ) → x ≡ v → v < 2 ^ 32 → add 32 (bit_and x 0xfffffffc) d ≡ add 32 (aligned v) d
address_is x d v h k = ap (λ z. add 32 (bit_and z 0xfffffffc) d) h ∙ ap (λ a. add 32 a d) (masked v k)

-- the next word
pub next_word : (a d : ℕ) → add 32 (add 32 a d) 4 ≡ add 32 a (add 32 d 4)
next_word a d = omega arith

-- of the two values of r15, the choice's low bit picks one
pub picked : (c x y : ℕ) → choose (Word 1 (c % 2 ^ 1)) (Word 32 x) (Word 32 y) ≡ Word 32 (if has_bit 0 c then x else y)
picked c x y = low (c % 2) (c / 1 % 2) (omega arith) (let e : c / 1 % 2 ≡ c % 2 = omega arith in e)
  where
    low : (n m : ℕ) → n < 2 → m ≡ n → choose (Word 1 n) (Word 32 x) (Word 32 y) ≡ Word 32 (if m == 1 then x else y)
    low zero m h e = rw e refl
    low (suc zero) m h e = rw e refl
    low (suc (suc n)) m h e = absurd (omega arith)

-- the first address of a block that goes up, and of one that goes down
pub first_up : (x k : ℕ) → k % 4 ≡ 0 → aligned (add 32 x k) ≡ add 32 (aligned x) k
first_up x k h = omega arith

pub first_down : (x k : ℕ) → k % 4 ≡ 0 → k ≤ 2 ^ 32 → aligned (sub 32 x k) ≡ add 32 (aligned x) (sub 32 0 k)
first_down x k h l = omega arith
