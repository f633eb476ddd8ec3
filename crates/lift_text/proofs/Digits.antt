-- The digits of the crate that prints them are those of the definitions.
use Rattle.std.proofs.Common.{◌≡◌, ℕ, zero, suc, ◌≤◌, ◌<◌, ◌/◌, ◌%◌, ◌==◌, ◌&&◌, Bool, true, List, [], ◌∷◌, ◌++◌, length, get_or, refl, ap, sym, ◌∙◌, subst, inl, inr, arith, eqb-true}
use Rattle.std.proofs.Math.Nat.{eq-or-lt_of_le}
use Rattle.std.proofs.lemmas.Bool.{and_parts}
use Rattle.word_spec.specs.Texts.{hex_digit, hex_digits}
use Rattle.hex.specs.Hex.{encode_lower, encode_with, lower_digits}
use Rattle.lift_text.specs.Found.{bytes_text}

-- the first n digits are the same, which computes
abbrev all_same : ℕ → Bool
all_same zero = true
all_same (suc n) = (get_or lower_digits n 0 == hex_digit n) && all_same n

same_below : (n d : ℕ) → all_same n ≡ true → d < n → get_or lower_digits d 0 ≡ hex_digit d
same_below zero d h l = absurd (omega arith)
same_below (suc n) d h l =
    let both = and_parts (get_or lower_digits n 0 == hex_digit n) (all_same n) h in
    let le : d ≤ n = omega arith in
    elim (eq-or-lt_of_le le) as (λ _. get_or lower_digits d 0 ≡ hex_digit d) [
      | inl same ↦ subst (λ m. get_or lower_digits m 0 ≡ hex_digit m) (sym same) (eqb-true _ _ both.0)
      | inr less ↦ same_below n d both.1 less
    ]

-- the digit of a number below 16
digit : (d : ℕ) → d < 16 → get_or lower_digits d 0 ≡ hex_digit d
digit d = same_below 16 d refl

-- the digits of a byte, in front of a text
pair : (b : ℕ) (rest other : List ℕ) → b < 256 → rest ≡ other → get_or lower_digits (b / 16) 0 ∷ get_or lower_digits (b % 16) 0 ∷ rest ≡ hex_digits 2 b ++ other
pair b rest other small same =
    let high : b / 16 ≡ b / 16 % 16 = omega arith in
    let first : get_or lower_digits (b / 16) 0 ≡ hex_digit (b / 16 % 16) = digit (b / 16) (omega arith) ∙ ap hex_digit high in
    let second : get_or lower_digits (b % 16) 0 ≡ hex_digit (b % 16) = digit (b % 16) (omega arith) in
    ap (λ x. x ∷ get_or lower_digits (b % 16) 0 ∷ rest) first ∙ ap (λ x. hex_digit (b / 16 % 16) ∷ x ∷ rest) second
    ∙ ap (λ x. hex_digit (b / 16 % 16) ∷ hex_digit (b % 16) ∷ x) same

-- the digits of bytes
pub byte_digits : (bytes : List ℕ) → ((i : ℕ) → get_or bytes i 0 < 256) → encode_lower bytes ≡ bytes_text bytes
unfolding encode_with
byte_digits [] small = refl
byte_digits (b ∷ bytes) small = pair b _ _ (small 0) (byte_digits bytes (λ i. small (suc i)))
