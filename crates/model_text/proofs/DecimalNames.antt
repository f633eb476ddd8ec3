-- A word of decimal digits is that of its number.
use Rattle.std.proofs.Common.{◌≡◌, ℕ, ◌^◌, ◌<◌, sym, ap, ◌∙◌, refl, arith, Bool, true, false, List, [], ◌∷◌, Some, None, Option, length, get_or}
use Rattle.std.specs.Prelude.{nat_lt, if◌then◌else◌}
use Rattle.std.specs.List.{list_all}
use Rattle.std.specs.Str.Parse.{AllDigits, digits_value}
use Rattle.std.specs.Char.{digit_value}
use Rattle.std.proofs.lemmas.Bool.Decides.{nat_tests}
use Rattle.std.proofs.lemmas.Str.Parse.{numerals_by_value, tells_digits}
use Rattle.std.proofs.lemmas.Fmt.{decimal-digits_value}
use Rattle.word_spec.specs.Texts.{number_text, is_decimal_digit, is_decimal, decimal_word}
use Rattle.machine_spec.proofs.StateLines.{and_true}

digit_below : (b : ℕ) → is_decimal_digit b ≡ true → digit_value b < 10
digit_below b e = grind (arith, nat_tests)

all_digits : (w : List ℕ) → list_all is_decimal_digit w ≡ true → AllDigits 10 w
all_digits [] e = tt
all_digits (b ∷ w) e = let p = and_true (is_decimal_digit b) (list_all is_decimal_digit w) e in (digit_below b p.0, all_digits w p.1)

decimal_parts : (w : List ℕ) → is_decimal w ≡ true → AllDigits 10 w × (0 < length w) × (get_or w 0 0 ≡ 48 → length w ≡ 1)
decimal_parts [] e = absurd (let z : false ≡ true = e in cc)
decimal_parts (b ∷ []) e = ((digit_below b e, tt), omega arith, λ _. refl)
decimal_parts (b ∷ c ∷ rest) e =
    let p = and_true (nat_lt 48 b) (list_all is_decimal_digit (b ∷ c ∷ rest)) e in
    (all_digits (b ∷ c ∷ rest) p.1, omega arith, λ same. absurd (grind (arith, nat_tests, p.0)))

if_some : {A : Type 0} (b : Bool) (x y : A) → (if b then Some x else None) ≡ Some y → (b ≡ true) × (x ≡ y)
if_some true x y e = (refl, cc)
if_some false x y e = absurd (let z : ◌≡◌ {A = Option _} None (Some y) = e in cc)

pub decimal_said : (w : List ℕ) (v : ℕ) → decimal_word w ≡ Some v → v < 2 ^ 64 → w ≡ number_text v
decimal_said w v e small =
    let p = if_some (is_decimal w) (digits_value 10 w) v e in
    let q = decimal_parts w p.0 in
    sym (decimal-digits_value (numerals_by_value (AllDigits 10) tells_digits) w q.0 q.1 q.2 (omega (arith, p.1))) ∙ ap number_text p.1
