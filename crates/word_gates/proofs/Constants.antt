-- Words of numbers, of inputs, and of turned bits.
use Rattle.std.proofs.Common.{◌≡◌, ℕ, suc, zero, ◌+◌, ◌*◌, ◌^◌, ◌<◌, Bool, List, length, take, sym, ◌∙◌, ap, arith, ◌==◌, ◌/◌, ◌%◌}
use Rattle.std.proofs.lemmas.List.{take_all}
use Rattle.std.proofs.Math.Nat.{pow-suc, div-add-mod, mod-eq_of_lt}
use Rattle.std.proofs.lemmas.Nat.{mod_low, pow_pos}
use Rattle.std.proofs.lemmas.Bool.Decides.{nat_tests}
use Rattle.word_spec.specs.Words.{bit, word, complement}
use Rattle.gates.specs.declared.bit.Bit.{Bit}
use Rattle.word_gates.specs.Numbers.{number, input_number}
use Rattle.word_gates.proofs.Words.{number_below}

low_digit : (n : ℕ) → bit (n % 2 == 1) ≡ n % 2
low_digit n = grind (arith, nat_tests)

pub constant_place : (p n m : ℕ) (b : Bool) (x : ℕ) → x + p * n ≡ m → b ≡ (n % 2 == 1) → (x + p * bit b) + 2 * p * (n / 2) ≡ m
constant_place p n m b x e f =
    let d : bit b ≡ n % 2 = ap bit f ∙ low_digit n in
    let g : 2 * (n / 2) + n % 2 ≡ n = div-add-mod n 2 in
    let k : p * (2 * (n / 2) + n % 2) ≡ p * n = ap (λ t. p * t) g in
    rw d (omega (arith, k))

pub constant_whole : (v : ℕ → Bool) (ls : List Bit) (w n m : ℕ) → number v ls + 2 ^ w * n ≡ m → length ls ≡ w → number v ls ≡ word w m
constant_whole v ls w n m e l =
    let b = number_below v ls in
    let c : number v ls < 2 ^ w = rw l at b in
    let f : m ≡ n * 2 ^ w + number v ls = omega arith in
    rw f (sym (mod_low n w (number v ls) c))

input_suc : (v : ℕ → Bool) (f i : ℕ) → input_number v f (suc i) ≡ input_number v f i + 2 ^ i * bit (v (suc (f + i)))
input_suc v f zero = let e : f + 0 ≡ f = omega arith in rw e (omega arith)
input_suc v f (suc i) =
    let e : f + suc i ≡ suc f + i = omega arith in
    let g = input_suc v (suc f) i in
    let p : 2 ^ suc i ≡ 2 * 2 ^ i = grind (arith, pow-suc 2 i) in
    rw (e, g, p) (omega arith)

pub input_more : (v : ℕ → Bool) (f i : ℕ) → input_number v f (i + 1) ≡ input_number v f i + 2 ^ i * bit (v (suc (f + i)))
input_more v f i = let e : i + 1 ≡ suc i = omega arith in rw e (input_suc v f i)

pub not_whole : (v : ℕ → Bool) (bs a : List Bit) (i : ℕ) → i ≡ length a → number v bs + number v (take i a) + 1 ≡ 2 ^ i →
    number v bs ≡ complement (length a) (number v a)
not_whole v bs a i e h =
    let t : take i a ≡ a = take_all i a (omega arith) in
    let g = rw (t, e) at h in
    omega arith

pub zero_word : (n : ℕ) → word n 0 ≡ 0
zero_word n = mod-eq_of_lt (pow_pos n)
