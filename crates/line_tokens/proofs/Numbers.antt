-- Numbers by their digits.
use Rattle.std.proofs.Common.{◌≡◌, ℕ, suc, ◌+◌, ◌*◌, ◌^◌, ◌≤◌, refl, ap, ◌∙◌, arith, Bool, true, false, List, [], ◌∷◌, length, min, take}
use Rattle.std.specs.Prelude.{nat_lt, nat_eq, codes, drop, if◌then◌else◌}
use Rattle.std.specs.Str.Parse.{digits_value}
use Rattle.std.specs.List.{list_all, prefix_len, starts_with}
use Rattle.std.proofs.lemmas.List.Sums.{take_while-cons}
use Rattle.std.proofs.lemmas.List.Folds.{length-prefix_len}
use Rattle.std.proofs.lemmas.List.{drop-drop}
use Rattle.std.proofs.lemmas.Bool.Decides.{nat_tests}
use Rattle.word_spec.specs.Tokens.{run_of, is_digit, is_hexadecimal, number_token, number_length, number_value, begins_with_letter, BadText, NumberToken}
use Rattle.word_spec.specs.Texts.{are_digits, is_digit_of}
use Rattle.line_tokens.specs.Tokens.{capped, number_before}

-- a number that is capped goes on as the number does
pub capped_more : (d radix v bound : ℕ) → 1 ≤ radix → min (min d bound * radix + v) bound ≡ min (d * radix + v) bound
capped_more d radix v bound some = grind (arith, more d, more bound)
  where
    more : (n : ℕ) → n ≤ n * radix
    more n = grind arith

-- one more byte that passes
pub one_more : (p : ℕ → Bool) (b : ℕ) (text : List ℕ) → p b ≡ true → prefix_len p (b ∷ text) ≡ suc (prefix_len p text)
one_more p b text e = rw e (omega arith)

-- none passes where the first byte does not
pub none_more : (p : ℕ → Bool) (b : ℕ) (text : List ℕ) → p b ≡ false → prefix_len p (b ∷ text) ≡ 0
none_more p b text e = rw e

-- a run has digits alone
run_passes : (base : ℕ) (text : List ℕ) → list_all (is_digit_of base) (run_of base text) ≡ true
run_passes base [] = refl
run_passes base (b ∷ text) = by_test (is_digit_of base b) refl (run_passes base text)
  where
    by_test : (x : Bool) → is_digit_of base b ≡ x → list_all (is_digit_of base) (run_of base text) ≡ true →
        list_all (is_digit_of base) (run_of base (b ∷ text)) ≡ true
    by_test true e rest = rw (take_while-cons (is_digit_of base) b text, e) (rw e rest)
    by_test false e rest = rw (take_while-cons (is_digit_of base) b text, e)

-- a run of digits is one or more where it isn't empty
run_is_digits : (base : ℕ) (text : List ℕ) → are_digits base (run_of base text) ≡ nat_lt 0 (length (run_of base text))
run_is_digits base text = by_run (run_of base text) (run_passes base text)
  where
    by_run : (ds : List ℕ) → list_all (is_digit_of base) ds ≡ true → are_digits base ds ≡ nat_lt 0 (length ds)
    by_run [] e = refl
    by_run (d ∷ ds) e = e ∙ grind (arith, nat_tests)

-- a text with 0x in front is a hexadecimal number where a digit follows
pub hexadecimal_by : (text : List ℕ) (count : ℕ) → starts_with nat_eq text (codes "0x") ≡ true → count ≡ length (run_of 16 (drop 2 text)) →
    nat_lt 0 count ≡ is_hexadecimal text
hexadecimal_by text count front long = rw (front, run_is_digits 16 (drop 2 text), long)

number_by : (base value : ℕ) (digits text rest : List ℕ) → digits_value base digits ≡ value → text ≡ rest →
    number_before base digits text ≡ capped (if begins_with_letter rest then BadText else NumberToken value)
number_by base value digits text rest same behind = rw (same, behind) (by_test (begins_with_letter rest))
  where
    by_test : (x : Bool) → (if x then BadText else NumberToken (min value (2 ^ 32))) ≡ capped (if x then BadText else NumberToken value)
    by_test true = refl
    by_test false = refl

-- the digits of a run
run_at : (base count : ℕ) (text : List ℕ) → count ≡ length (run_of base text) → take count text ≡ run_of base text
run_at base count text long = ap (λ n. take n text) (long ∙ length-prefix_len (is_digit_of base) text)

-- the number of the digits behind 0x
pub hexadecimal_token : (text : List ℕ) (count : ℕ) → is_hexadecimal text ≡ true → count ≡ length (run_of 16 (drop 2 text)) →
    number_before 16 (take count (drop 2 text)) (drop count (drop 2 text)) ≡ capped (number_token text)
hexadecimal_token text count test long =
    let size : 2 + count ≡ number_length text = rw (test, long) in
    let value : digits_value 16 (run_of 16 (drop 2 text)) ≡ number_value text = rw test in
    number_by 16 (number_value text) (take count (drop 2 text)) (drop count (drop 2 text)) (drop (number_length text) text)
    (ap (digits_value 16) (run_at 16 count (drop 2 text) long) ∙ value) (drop-drop count 2 text ∙ ap (λ n. drop n text) size)

-- the number of decimal digits
pub decimal_token : (text : List ℕ) (count : ℕ) → is_hexadecimal text ≡ false → count ≡ length (run_of 10 text) →
    number_before 10 (take count text) (drop count text) ≡ capped (number_token text)
decimal_token text count test long =
    let size : count ≡ number_length text = rw (test, long) in
    let value : digits_value 10 (run_of 10 text) ≡ number_value text = rw test in
    number_by 10 (number_value text) (take count text) (drop count text) (drop (number_length text) text)
    (ap (digits_value 10) (run_at 10 count text long) ∙ value) (ap (λ n. drop n text) size)

-- a text that begins with a digit begins with a number of some bytes
pub number_some : (first : ℕ) (text : List ℕ) → take 1 text ≡ first ∷ [] → is_digit first ≡ true → 1 ≤ number_length text
number_some first [] front digit = absurd cc
number_some first (b ∷ text) front digit = by_test (is_hexadecimal (b ∷ text)) refl
  where
    same : b ∷ [] ≡ first ∷ [] → b ≡ first
    same e = cc

    decimal : is_digit_of 10 b ≡ true
    decimal = let h : is_digit b ≡ true = ap is_digit (same front) ∙ digit in grind (arith, nat_tests, h)

    by_test : (x : Bool) → is_hexadecimal (b ∷ text) ≡ x → 1 ≤ number_length (b ∷ text)
    by_test true e = rw e (omega arith)
    by_test false e = rw e (rw (length-prefix_len (is_digit_of 10) (b ∷ text), one_more (is_digit_of 10) b text decimal) (omega arith))
