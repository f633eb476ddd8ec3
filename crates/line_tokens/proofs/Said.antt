-- The numbers that words say.
use Rattle.std.proofs.Common.{◌≡◌, ℕ, subst, ◌+◌, ◌*◌, ◌^◌, ◌<◌, ◌≤◌, ap, sym, ◌∙◌, arith, Bool, true, false, List, [], ◌∷◌, Some, None, length, take, get_or, lt_of_lt_of_le}
use Rattle.std.specs.Prelude.{◌==◌, ◌&&◌, nat_lt, nat_le}
use Rattle.std.specs.List.{list_all}
use Rattle.std.specs.Str.Parse.{digits_value, AllDigits}
use Rattle.std.specs.Char.{digit_value}
use Rattle.std.proofs.lemmas.Bool.Decides.{nat_tests}
use Rattle.std.proofs.lemmas.Int.Digits.{digits_value-lt, digits_value_more}
use Rattle.std.proofs.lemmas.Str.Parse.{digits_value-take-le}
use Rattle.std.proofs.Math.Nat.{pow-le-pow_right}
use Rattle.word_spec.specs.Texts.{is_decimal, is_decimal_digit, is_hex_digit, decimal_word, at_most}
use Rattle.line_tokens.specs.Words.{hex_value}

-- several digits, the first above 0
pub several_digits : (word : List ℕ) (all : Bool) → 2 ≤ length word → all ≡ list_all is_decimal_digit word → 48 < get_or word 0 0 → all ≡ is_decimal word
several_digits [] all long e first = absurd (omega arith)
several_digits (b ∷ []) all long e first = absurd (omega arith)
several_digits (b ∷ c ∷ rest) all long e first =
    let above : nat_lt 48 b ≡ true = grind (arith, nat_tests, first) in
    e ∙ ap (λ t. t && list_all is_decimal_digit (b ∷ c ∷ rest)) (sym above)

-- the value of a decimal word that is above a bound
pub value_above : (bound i : ℕ) (word : List ℕ) → is_decimal word ≡ true → i < length word →
    bound < digits_value 10 (take i word) * 10 + digit_value (get_or word i 0) → None ≡ at_most bound (decimal_word word)
value_above bound i word test below above =
    let more : bound < digits_value 10 word = omega (arith, above, digits_value_more 10 word i below, digits_value-take-le 10 word (i + 1) (omega arith)) in
    let fails : nat_le (digits_value 10 word) bound ≡ false = grind (arith, nat_tests, more) in
    rw (test, fails)

-- hexadecimal digits
hex_below : (ds : List ℕ) → list_all is_hex_digit ds ≡ true → AllDigits 16 ds
hex_below [] e = tt
hex_below (d ∷ ds) e = (grind (arith, nat_tests, e), hex_below ds (grind (arith, nat_tests, e)))

-- at most eight hexadecimal digits say a number below 2 ^ 32
pub hex_small : (count : ℕ) (ds : List ℕ) → count ≤ 8 → length ds ≡ count → list_all is_hex_digit ds ≡ true → digits_value 16 ds < 2 ^ 32
hex_small count ds few long all =
    let room : 16 ^ length ds ≤ 16 ^ 8 = pow-le-pow_right {n = 16} (omega arith) {i = length ds} {j = 8} (omega (arith, few, long)) in
    let below : digits_value 16 ds < 16 ^ length ds = digits_value-lt 16 ds (hex_below ds all) in
    lt_of_lt_of_le below room

-- the number of so many hexadecimal digits
pub hex_said : (count value : ℕ) (ds : List ℕ) → length ds ≡ count → list_all is_hex_digit ds ≡ true → value ≡ digits_value 16 ds →
    Some value ≡ hex_value count ds
hex_said count value ds long all e =
    let same : (length ds == count) ≡ true = grind (arith, nat_tests, long) in
    rw (same, all) (ap (λ v. Some v) e)

-- so many hexadecimal digits say a number of so many
pub hex_room : (count value : ℕ) (ds : List ℕ) → length ds ≡ count → list_all is_hex_digit ds ≡ true → value ≡ digits_value 16 ds → value < 16 ^ count
hex_room count value ds long all e =
    let below : digits_value 16 ds < 16 ^ length ds = digits_value-lt 16 ds (hex_below ds all) in
    let P : ℕ → Type 0 = λ v. v < 16 ^ count in
    let Q : ℕ → Type 0 = λ k. digits_value 16 ds < 16 ^ k in
    subst P (sym e) (subst Q long below)
