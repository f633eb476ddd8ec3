-- The tokens of a line of notes.
use Rattle.std.specs.Prelude.{ℕ, zero, suc, ◌+◌, ◌-◌, Bool, true, false, List, [], ◌∷◌, Option, Some, None, ◌==◌, ◌&&◌, ◌||◌, not, nat_eq, nat_le, if◌then◌else◌, length, find, codes, drop, take_while}
use Rattle.std.specs.List.{starts_with, list_any}
use Rattle.std.specs.Str.Parse.{digits_value}
use Rattle.word_spec.specs.Texts.{is_blank, is_digit_of, are_digits}

-- A number, a name or a word, a bracket or an operator by its text; a byte that may stand only in a comment; characters that begin no token (as < and >=
-- without their u or s), or a number with a letter on its end.
pub data Token : Type 0 where
  NumberToken : ℕ → Token
  NameToken : List ℕ → Token
  SignToken : List ℕ → Token
  BadByte : Token
  BadText : Token

-- a byte between two others
abbrev pub within : ℕ → ℕ → ℕ → Bool
within low high b = nat_le low b && nat_le b high

-- a decimal digit
abbrev pub is_digit : ℕ → Bool
is_digit b = within 48 57 b

-- a letter, _ . or $
abbrev pub begins_name : ℕ → Bool
begins_name b = within 65 90 b || within 97 122 b || (b == 95) || (b == 46) || (b == 36)

-- a byte that goes on a name
abbrev pub goes_on_name : ℕ → Bool
goes_on_name b = is_digit b || begins_name b

-- what follows goes on no name
abbrev pub stops : List ℕ → Bool
stops [] = true
stops (b ∷ rest) = not (goes_on_name b)

-- bytes 20 to 7E, and the tab
abbrev pub is_plain : ℕ → Bool
is_plain b = within 32 126 b || (b == 9)

-- a letter
abbrev pub is_letter : ℕ → Bool
is_letter b = within 65 90 b || within 97 122 b

-- the longest run of digits of a base at the front of a text
abbrev pub run_of : ℕ → List ℕ → List ℕ
run_of base text = take_while (is_digit_of base) text

-- the text begins with 0x and a hexadecimal digit
abbrev pub is_hexadecimal : List ℕ → Bool
is_hexadecimal text = starts_with nat_eq text (codes "0x") && are_digits 16 (run_of 16 (drop 2 text))

-- how many bytes the number has with which a text begins
abbrev pub number_length : List ℕ → ℕ
number_length text = if is_hexadecimal text then 2 + length (run_of 16 (drop 2 text)) else length (run_of 10 text)

-- the value of that number
abbrev pub number_value : List ℕ → ℕ
number_value text = if is_hexadecimal text then digits_value 16 (run_of 16 (drop 2 text)) else digits_value 10 (run_of 10 text)

-- the text begins with a letter
abbrev pub begins_with_letter : List ℕ → Bool
begins_with_letter [] = false
begins_with_letter (b ∷ rest) = is_letter b

-- A text that begins with a digit begins with a number, which ends badly where a letter follows.
abbrev pub number_token : List ℕ → Token
number_token text = if begins_with_letter (drop (number_length text) text) then BadText else NumberToken (number_value text)

-- the operators and brackets, each before those that begin it
abbrev pub signs : List (List ℕ)
signs =
    codes ">>>" ∷ codes "<=u" ∷ codes ">=u" ∷ codes "<=s" ∷ codes ">=s" ∷ codes "<u" ∷ codes ">u" ∷ codes "<s" ∷ codes ">s" ∷
    codes "<<" ∷ codes ">>" ∷ codes "!=" ∷ codes "=" ∷ codes "|" ∷ codes "^" ∷ codes "&" ∷ codes "+" ∷ codes "-" ∷ codes "*" ∷
    codes "(" ∷ codes ")" ∷ codes "[" ∷ codes "]" ∷ []

-- the u or s of a comparison belongs to it only where no name goes on
abbrev pub ends_in_letter : List ℕ → Bool
ends_in_letter op = list_any (λ b. (b == 117) || (b == 115)) op

-- the text begins with an operator or a bracket
abbrev pub begins_sign : List ℕ → List ℕ → Bool
begins_sign text op = starts_with nat_eq text op && (not (ends_in_letter op) || stops (drop (length op) text))

-- the letters, digits and _ . $ at the front of a text
abbrev pub name_at : List ℕ → List ℕ
name_at text = take_while goes_on_name text

-- a sign, or characters that begin no token
abbrev pub sign_token : Option (List ℕ) → Token
sign_token None = BadText
sign_token (Some op) = SignToken op

-- how many bytes it has; of what begins no token one byte is passed over
abbrev pub sign_length : Option (List ℕ) → ℕ
sign_length None = 1
sign_length (Some op) = length op

-- the token at the front of a text whose first byte is given
abbrev pub token_at : ℕ → List ℕ → Token
token_at b text =
    if is_digit b then number_token text else
    if begins_name b then NameToken (name_at text) else
    if is_plain b then sign_token (find (begins_sign text) signs) else BadByte

-- how many bytes the token has
abbrev pub token_length : ℕ → List ℕ → ℕ
token_length b text =
    if is_digit b then number_length text else
    if begins_name b then length (name_at text) else sign_length (find (begins_sign text) signs)

-- the tokens of a line up to its comment, after so many bytes that belong to the token before
abbrev pub tokens_after : ℕ → List ℕ → List Token
tokens_after skip [] = []
tokens_after (suc skip) (b ∷ rest) = tokens_after skip rest
tokens_after zero (b ∷ rest) =
    if is_blank b then tokens_after 0 rest else
    if b == 35 then [] else token_at b (b ∷ rest) ∷ tokens_after (token_length b (b ∷ rest) - 1) rest

-- the tokens of a line
abbrev pub tokens_of : List ℕ → List Token
tokens_of text = tokens_after 0 text
