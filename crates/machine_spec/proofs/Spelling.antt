-- Words and numbers are read back from their texts.
use Rattle.std.proofs.Common.{◌≡◌, ℕ, zero, suc, ◌/◌, ◌%◌, ◌^◌, ◌<◌, refl, ap, ◌∙◌, arith, true, false, List, [], ◌∷◌, ◌++◌, Some, length, length-append, get_or}
use Rattle.std.specs.Prelude.{◌==◌, nat_lt, codes, decimal}
use Rattle.std.specs.List.{list_all}
use Rattle.std.specs.Str.{bytes_eq}
use Rattle.std.specs.Str.Parse.{AllDigits, digits_value}
use Rattle.std.specs.Char.{digit_value}
use Rattle.std.proofs.lemmas.Bool.Decides.{nat_tests}
use Rattle.std.proofs.lemmas.Slice.Eq.{bytes_eq-Decides}
use Rattle.std.proofs.lemmas.Fmt.{decimal_is_IsNumeral, first_decimal, decimal_digit}
use Rattle.std.proofs.lemmas.Str.Parse.{digit_from_value}
use Rattle.std.proofs.lemmas.List.Folds.{list_all-append}
use Rattle.std.proofs.lemmas.Int.Digits.{digits_value_push}
use Rattle.word_spec.specs.Texts.{hex_digit, hex_digits, number_text, joined, words_in, split_lines, line, lines, is_decimal_digit, is_hex_digit, is_decimal, decimal_word, hex_word}

-- two texts that are one pass the test
pub same_text : (w : List ℕ) → bytes_eq w w ≡ true
same_text w = (bytes_eq-Decides w w).1 refl

-- every byte is above a number: above 32 there is no blank, and above 31 no line feed
abbrev pub Above : ℕ → List ℕ → Type 0
Above n [] = Unit {0}
Above n (b ∷ w) = (n < b) × Above n w

pub Above-append : (n : ℕ) (v w : List ℕ) → Above n v → Above n w → Above n (v ++ w)
Above-append n [] w p q = q
Above-append n (b ∷ v) w p q = (p.0, Above-append n v w p.1 q)

pub Above-less : (w : List ℕ) → Above 32 w → Above 31 w
Above-less [] p = tt
Above-less (b ∷ w) p = (omega arith, Above-less w p.1)

pub same_number : (n : ℕ) → (n == n) ≡ true
same_number n = grind (arith, nat_tests)

not_equal : (b n : ℕ) → n < b → (b == n) ≡ false
not_equal b n h = grind (arith, nat_tests)

-- words of a line
word_then : (w rest : List ℕ) → Above 32 w → words_in (w ++ 32 ∷ rest) ≡ w ∷ words_in rest
word_then [] rest p = refl
word_then (b ∷ w) rest p = rw (not_equal b 32 p.0, word_then w rest p.1) refl

last_word : (w : List ℕ) → Above 32 w → words_in w ≡ w ∷ []
last_word [] p = refl
last_word (b ∷ w) p = rw (not_equal b 32 p.0, last_word w p.1) refl

abbrev pub AllAbove : ℕ → List (List ℕ) → Type 0
AllAbove n [] = Unit {0}
AllAbove n (w ∷ ws) = Above n w × AllAbove n ws

append-nil : (w : List ℕ) → w ++ [] ≡ w
append-nil [] = refl
append-nil (b ∷ w) = ap (λ x. b ∷ x) (append-nil w)

pub words_in_joined : (w : List ℕ) (ws : List (List ℕ)) → AllAbove 32 (w ∷ ws) → words_in (joined (w ∷ ws)) ≡ w ∷ ws
words_in_joined w [] p = rw (append-nil w) (last_word w p.0)
words_in_joined w (v ∷ ws) p = word_then w (joined (v ∷ ws)) p.0 ∙ ap (λ x. w ∷ x) (words_in_joined v ws p.1)

pub joined_above : (w : List ℕ) (ws : List (List ℕ)) → AllAbove 32 (w ∷ ws) → Above 31 (joined (w ∷ ws))
joined_above w [] p = rw (append-nil w) (Above-less w p.0)
joined_above w (v ∷ ws) p = Above-append 31 w (32 ∷ joined (v ∷ ws)) (Above-less w p.0) (omega arith, joined_above v ws p.1)

-- lines of a text
line_then : (l rest : List ℕ) → Above 31 l → split_lines (line l ++ rest) ≡ l ∷ split_lines rest
line_then [] rest p = refl
line_then (b ∷ l) rest p = rw (not_equal b 10 (omega (arith, p.0)), line_then l rest p.1) refl

pub split_lines_of : (ls : List (List ℕ)) → AllAbove 31 ls → split_lines (lines ls) ≡ ls
split_lines_of [] p = refl
split_lines_of (l ∷ ls) p = line_then l (lines ls) p.0 ∙ ap (λ x. l ∷ x) (split_lines_of ls p.1)

-- decimal numbers
digits_above : (ds : List ℕ) → AllDigits 10 ds → Above 32 ds
digits_above [] d = tt
digits_above (b ∷ ds) d = (omega (arith, digit_from_value b d.0), digits_above ds d.1)

pub number_above : (n : ℕ) → n < 2 ^ 64 → Above 32 (number_text n)
number_above n h = digits_above (decimal n) (decimal_is_IsNumeral n h).0.1

all_decimal : (ds : List ℕ) → AllDigits 10 ds → list_all is_decimal_digit ds ≡ true
all_decimal [] d = refl
all_decimal (b ∷ ds) d = let k = digit_from_value b d.0 in let t : is_decimal_digit b
    ≡ true = grind (arith, nat_tests, k.0, k.1) in rw (t, all_decimal ds d.1) refl

is_decimal_of : (w : List ℕ) → 0 < length w → AllDigits 10 w → 48 < get_or w 0 0 → is_decimal w ≡ true
is_decimal_of [] some d lead = absurd (omega arith)
is_decimal_of (b ∷ []) some d lead = let k = digit_from_value b d.0 in grind (arith, nat_tests, k.0, k.1)
is_decimal_of (b ∷ c ∷ rest) some d lead = let t : nat_lt 48 b ≡ true = grind (arith, nat_tests) in rw (t, all_decimal (b ∷ c ∷ rest) d) refl

decimal_is : (n : ℕ) → n < 2 ^ 64 → is_decimal (number_text n) ≡ true
decimal_is zero h = rw (decimal_digit 0 (omega arith)) refl
decimal_is (suc n) h =
    let k = decimal_is_IsNumeral (suc n) h in is_decimal_of (decimal (suc n)) k.0.0 k.0.1 (first_decimal (suc n) (omega arith) h)

-- a number is read back
pub decimal_back : (n : ℕ) → n < 2 ^ 64 → decimal_word (number_text n) ≡ Some n
decimal_back n h = rw (decimal_is n h) (ap Some (decimal_is_IsNumeral n h).1)

-- hexadecimal digits
hex_value : (d : ℕ) → d < 16 → digit_value (hex_digit d) ≡ d
hex_value d h = grind (arith, nat_tests)

hex_is_digit : (d : ℕ) → d < 16 → is_hex_digit (hex_digit d) ≡ true
hex_is_digit d h = grind (arith, nat_tests)

hex_above : (d : ℕ) → 32 < hex_digit d
hex_above d = grind (arith, nat_tests)

pub hex_length : (n v : ℕ) → length (hex_digits n v) ≡ n
hex_length zero v = refl
hex_length (suc n) v = length-append (hex_digits n (v / 16)) (hex_digit (v % 16) ∷ []) ∙ omega (arith, hex_length n (v / 16))

hex_all : (n v : ℕ) → list_all is_hex_digit (hex_digits n v) ≡ true
hex_all zero v = refl
hex_all (suc n) v = rw (
  list_all-append is_hex_digit (hex_digits n (v / 16)) (hex_digit (v % 16)
      ∷ []),
  hex_all n (v / 16),
  hex_is_digit (v % 16) (omega arith),
) refl

hex_back_digits : (n v : ℕ) → v < 16 ^ n → digits_value 16 (hex_digits n v) ≡ v
hex_back_digits zero v h = omega arith
hex_back_digits (suc n) v h =
    digits_value_push 16 (hex_digits n (v / 16)) (hex_digit (v % 16))
    ∙ rw (hex_back_digits n (v / 16) (omega arith), hex_value (v % 16) (omega arith)) (omega arith)

hex_digits_above : (n v : ℕ) → Above 32 (hex_digits n v)
hex_digits_above zero v = tt
hex_digits_above (suc n) v = Above-append 32 (hex_digits n (v / 16)) (hex_digit (v % 16) ∷ []) (hex_digits_above n (v / 16)) (hex_above (v % 16), tt)

-- 0x and hexadecimal digits are read back
pub hex_back : (n v : ℕ) → v < 16 ^ n → hex_word n (codes "0x" ++ hex_digits n v) ≡ Some v
hex_back n v h = rw (hex_length n v, hex_all n v, hex_back_digits n v h, same_number n) refl

pub hex_word_above : (n v : ℕ) → Above 32 (codes "0x" ++ hex_digits n v)
hex_word_above n v = (omega arith, (omega arith, hex_digits_above n v))
