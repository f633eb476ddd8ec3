-- Bits of words.
use Rattle.std.proofs.Common.{◌≡◌, ℕ, zero, suc, ◌+◌, ◌-◌, ◌*◌, ◌/◌, ◌%◌, ◌^◌, ◌<◌, sym, ap, subst, ◌∙◌, arith}
use Rattle.std.specs.Prelude.{◌==◌}
use Rattle.std.proofs.lemmas.Bool.{ne_eqb}
use Rattle.std.proofs.lemmas.Bool.Decides.{nat_tests}
use Rattle.std.proofs.lemmas.Grind.{common_steps}
use Rattle.std.proofs.lemmas.Nat.{pow_pos, pow-add}
use Rattle.std.proofs.Math.Nat.{div-eq_of_lt}
use Rattle.std.proofs.Math.Path.{fun_ext}
use Rattle.word_spec.specs.Words.{bit, bit_at}
use Rattle.machine_spec.specs.Arm.{with_flags}
use Rattle.machine_spec.proofs.ArmRanges.{ror_small}

-- a bit from its test
pub of_test : (x : ℕ) → x < 2 → bit (x == 1) ≡ x
of_test x l = grind (arith, nat_tests)

-- a one, shifted to the left within 64 bits
pub power : (k : ℕ) → k < 64 → 1 * 2 ^ k % 18446744073709551616 ≡ 2 ^ k
power k h = grind (arith, common_steps)

pub rotated_fits : (a k : ℕ) → a < 2 ^ 32 → k < 32 → a / 2 ^ k + a % 2 ^ k * 2 ^ (32 - k) < 2 ^ 32
rotated_fits a k l m =
    let e : k % 32 ≡ k = omega arith in
    subst (λ (z : ℕ). a / 2 ^ z + a % 2 ^ z * 2 ^ (32 - z) < 2 ^ 32) e (ror_small a k l)

two_below : (n : ℕ) → n % 2 < 2
two_below n = omega arith

high_bit : (g b : ℕ) → b < 16 → bit_at (suc (suc (suc (suc g)))) b ≡ 0
high_bit g b h =
    let e : suc (suc (suc (suc g))) ≡ 4 + g = omega arith in
    let p = pow_pos g in
    let w : 2 ^ (4 + g) ≡ 16 * 2 ^ g = pow-add 2 4 g in
    let z : b / 2 ^ (4 + g) ≡ 0 = div-eq_of_lt (let l : b < 2 ^ (4 + g) = rw w (omega (arith, p)) in l) in
    ap (λ k. b / 2 ^ k % 2) e ∙ ap (λ x. x % 2) z

-- the flags of a number of four bits
flag_at : (b f : ℕ) → b < 16 → with_flags (λ f. 0) (bit (b / 8 % 2 == 1)) (bit (b / 4 % 2 == 1)) (bit (b / 2 % 2 == 1)) (bit (b % 2 == 1)) f ≡ bit_at f b
flag_at b zero h = of_test (b % 2) (two_below b) ∙ ap (λ x. x % 2) (let e : b ≡ b / 1 = omega arith in e)
flag_at b (suc zero) h = of_test (b / 2 % 2) (two_below (b / 2))
flag_at b (suc (suc zero)) h = of_test (b / 4 % 2) (two_below (b / 4))
flag_at b (suc (suc (suc zero))) h = of_test (b / 8 % 2) (two_below (b / 8))
flag_at b (suc (suc (suc (suc g)))) h =
    let f = suc (suc (suc (suc g))) in
    rw (ne_eqb f 0 (λ e. omega arith), ne_eqb f 1 (λ e. omega arith), ne_eqb f 2 (λ e. omega arith), ne_eqb f 3 (λ e. omega arith)) (sym (high_bit g b h))

pub flags_at : (b : ℕ) → b < 16 → with_flags (λ f. 0) (bit (b / 8 % 2 == 1)) (bit (b / 4 % 2 == 1)) (bit (b / 2 % 2 == 1)) (bit (b % 2 == 1))
    ≡ (λ f. bit_at f b)
flags_at b h = fun_ext (λ f. flag_at b f h)
