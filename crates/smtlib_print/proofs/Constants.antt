-- Constants have their values.
use Rattle.std.proofs.Common.{◌≡◌, ℕ, zero, suc, ◌+◌, ◌*◌, ◌/◌, ◌%◌, ◌^◌, ◌<◌, refl, ap, mul_assoc, sym, subst, ◌∙◌, arith, true, false, Bool, List, [], ◌∷◌, ◌++◌, Option, Some, None, length, length-append}
use Rattle.std.specs.Prelude.{◌==◌, ◌&&◌, codes, if◌then◌else◌}
use Rattle.std.specs.List.{list_all}
use Rattle.std.specs.Char.{digit_value}
use Rattle.std.specs.Str.Parse.{digits_value}
use Rattle.std.proofs.lemmas.Bool.Decides.{nat_tests}
use Rattle.std.proofs.lemmas.Int.Digits.{digits_value_push}
use Rattle.std.proofs.lemmas.List.Folds.{list_all-append}
use Rattle.std.proofs.lemmas.Nat.{pow-add}
use Rattle.word_spec.specs.Texts.{hex_digit, hex_digits, is_hex_digit}
use Rattle.bilv_spec.specs.SmtLib.{SmtValue, WordValue, atom_value, constant_of, is_binary_digit}
use Rattle.machine_spec.proofs.Spelling.{hex_back, hex_length}
use Rattle.smtlib_print.specs.Commands.{binary_digits, constant_text}
use Rattle.smtlib_print.proofs.ReadBack.{is_inner}

found : (p : Bool) (x v : ℕ) → (if p then Some x else None) ≡ Some v → (p ≡ true) × (x ≡ v)
found true x v h = (refl, cc h)
found false x v h = absurd (cc h)

both : (p q : Bool) → (p && q) ≡ true → q ≡ true
both true q h = h
both false q h = absurd (cc h)

-- a byte has so many bits
pub eight : (k : ℕ) → 2 ^ (8 * k) ≡ 256 ^ k
eight zero = refl
eight (suc k) = let e : 8 * suc k ≡ 8 * k + 8 = omega arith in ap (λ z. 2 ^ z) e ∙ pow-add 2 (8 * k) 8 ∙ omega (arith, eight k)

four_bits : (k : ℕ) → 2 ^ (4 * k) ≡ 16 ^ k
four_bits zero = refl
four_bits (suc k) = let e : 4 * suc k ≡ 4 * k + 4 = omega arith in ap (λ z. 2 ^ z) e ∙ pow-add 2 (4 * k) 4 ∙ omega (arith, four_bits k)

-- hexadecimal digits
digits_constant : (ds : List ℕ) → 0 < length ds → list_all is_hex_digit ds ≡ true →
    constant_of (35 ∷ 120 ∷ ds) ≡ Some (WordValue (4 * length ds) (digits_value 16 ds))
digits_constant [] s h = absurd (omega arith)
digits_constant (d ∷ ds) s h = rw h refl

hex_told : (k v : ℕ) → v < 16 ^ k → (list_all is_hex_digit (hex_digits k v) ≡ true) × (digits_value 16 (hex_digits k v) ≡ v)
hex_told k v h =
    let f = found ((length (hex_digits k v) == k) && list_all is_hex_digit (hex_digits k v)) (digits_value 16 (hex_digits k v)) v (hex_back k v h) in
    (both (length (hex_digits k v) == k) (list_all is_hex_digit (hex_digits k v)) f.0, f.1)

pub hex_constant : (symbols : List ℕ → Option SmtValue) (k v : ℕ) → 0 < k → v < 16 ^ k →
    atom_value symbols (codes "#x" ++ hex_digits k v) ≡ Some (WordValue (4 * k) v)
hex_constant symbols k v s h =
    let t = hex_told k v h in
    let c = digits_constant (hex_digits k v) (omega (arith, hex_length k v)) t.0 in
    rw c (ap (λ z. Some (WordValue (4 * z) (digits_value 16 (hex_digits k v)))) (hex_length k v) ∙ ap (λ z. Some (WordValue (4 * k) z)) t.1)

-- numbers that differ by a multiple of what the digits can tell have the same digits
pub same_digits : (k u v q : ℕ) → u ≡ v + q * 16 ^ k → hex_digits k u ≡ hex_digits k v
same_digits zero u v q e = refl
same_digits (suc k) u v q e =
    let p : 16 ^ suc k ≡ 16 ^ k * 16 = omega arith in
    let m : q * 16 ^ suc k ≡ q * 16 ^ k * 16 = ap (λ z. q * z) p ∙ sym (mul_assoc q (16 ^ k) 16) in
    let a : u / 16 ≡ v / 16 + q * 16 ^ k = omega (arith, e, m) in
    let b : u % 16 ≡ v % 16 = omega (arith, e, m) in
    ap (λ l. l ++ hex_digit (u % 16) ∷ []) (same_digits k (u / 16) (v / 16) q a) ∙ ap (λ d. hex_digits k (v / 16) ++ hex_digit d ∷ []) b

-- binary digits
binary_length : (n v : ℕ) → length (binary_digits n v) ≡ n
binary_length zero v = refl
binary_length (suc n) v = length-append (binary_digits n (v / 2)) ((48 + v % 2) ∷ []) ∙ omega (arith, binary_length n (v / 2))

digit_is : (d : ℕ) → d < 2 → is_binary_digit (48 + d) ≡ true
digit_is d h = grind (arith, nat_tests)

digit_has : (d : ℕ) → d < 2 → digit_value (48 + d) ≡ d
digit_has d h = grind (arith, nat_tests)

binary_all : (n v : ℕ) → list_all is_binary_digit (binary_digits n v) ≡ true
binary_all zero v = refl
binary_all (suc n) v =
    rw (list_all-append is_binary_digit (binary_digits n (v / 2)) ((48 + v % 2) ∷ []), binary_all n (v / 2), digit_is (v % 2) (omega arith)) refl

binary_value : (n v : ℕ) → v < 2 ^ n → digits_value 2 (binary_digits n v) ≡ v
binary_value zero v h = omega arith
binary_value (suc n) v h =
    digits_value_push 2 (binary_digits n (v / 2)) (48 + v % 2) ∙ rw (binary_value n (v / 2) (omega arith), digit_has (v % 2) (omega arith)) (omega arith)

bits_constant : (ds : List ℕ) → 0 < length ds → list_all is_binary_digit ds ≡ true →
    constant_of (35 ∷ 98 ∷ ds) ≡ Some (WordValue (length ds) (digits_value 2 ds))
bits_constant [] s h = absurd (omega arith)
bits_constant (d ∷ ds) s h = rw h refl

binary_constant : (symbols : List ℕ → Option SmtValue) (w v : ℕ) → 0 < w → v < 2 ^ w →
    atom_value symbols (codes "#b" ++ binary_digits w v) ≡ Some (WordValue w v)
binary_constant symbols w v s h =
    let c = bits_constant (binary_digits w v) (omega (arith, binary_length w v)) (binary_all w v) in
    rw c (ap (λ z. Some (WordValue z (digits_value 2 (binary_digits w v)))) (binary_length w v) ∙ ap (λ z. Some (WordValue w z)) (binary_value w v h))

by_width : (by_four : Bool) (symbols : List ℕ → Option SmtValue) (w v : ℕ) → (w % 4 == 0) ≡ by_four → 0 < w → v < 2 ^ w →
    atom_value symbols (if by_four then codes "#x" ++ hex_digits (w / 4) v else codes "#b" ++ binary_digits w v) ≡ Some (WordValue w v)
by_width true symbols w v e s h =
    let z : w % 4 ≡ 0 = grind (arith, nat_tests) in
    let q : 4 * (w / 4) ≡ w = omega arith in
    let f = four_bits (w / 4) in
    let b : v < 16 ^ (w / 4) = subst (λ (n : ℕ). v < n) (ap (λ n. 2 ^ n) (sym q) ∙ f) h in
    hex_constant symbols (w / 4) v (omega arith) b ∙ ap (λ n. Some (WordValue n v)) q
by_width false symbols w v e s h = binary_constant symbols w v s h

-- a constant has its value
pub constant_value : (symbols : List ℕ → Option SmtValue) (w v : ℕ) → 0 < w → v < 2 ^ w → atom_value symbols (constant_text w v) ≡ Some (WordValue w v)
constant_value symbols w v s h = by_width (w % 4 == 0) symbols w v refl s h

hex_inner : (d : ℕ) → is_hex_digit d ≡ true → is_inner d ≡ true
hex_inner d h = grind (arith, nat_tests)
