-- The texts of numbers, words and lines, and what is read of them.
use Rattle.std.specs.Prelude.{ℕ, zero, suc, ◌+◌, ◌/◌, ◌%◌, ◌==◌, ◌&&◌, ◌||◌, Bool, false, nat_lt, nat_le, if◌then◌else◌, List, [], ◌∷◌, ◌++◌, Option, Some, None, length, codes, decimal}
use Rattle.std.specs.List.{list_all}
use Rattle.std.specs.Str.Parse.{digits_value}
use Rattle.std.specs.Char.{digit_value}

-- a hexadecimal digit in lower case
abbrev pub hex_digit : ℕ → ℕ
hex_digit d = if nat_lt d 10 then 48 + d else 87 + d

-- the n lowest hexadecimal digits of a number
abbrev pub hex_digits : ℕ → ℕ → List ℕ
hex_digits zero v = []
hex_digits (suc n) v = hex_digits n (v / 16) ++ hex_digit (v % 16) ∷ []

-- an address, or a word of 32 bits
abbrev pub word_text : ℕ → List ℕ
word_text v = codes "0x" ++ hex_digits 8 v

-- a byte
abbrev pub byte_text : ℕ → List ℕ
byte_text v = codes "0x" ++ hex_digits 2 v

-- a decimal number
abbrev pub number_text : ℕ → List ℕ
number_text n = decimal n

-- the byte that ends a line
abbrev pub line_feed : ℕ
line_feed = 10

-- the byte between two words
abbrev pub blank : ℕ
blank = 32

-- a text with its line feed
abbrev pub line : List ℕ → List ℕ
line text = text ++ line_feed ∷ []

-- lines, each with its line feed
abbrev pub lines : List (List ℕ) → List ℕ
lines [] = []
lines (l ∷ ls) = line l ++ lines ls

-- words with a blank before each
abbrev pub spaced : List (List ℕ) → List ℕ
spaced [] = []
spaced (w ∷ ws) = blank ∷ w ++ spaced ws

-- words with a blank between two
abbrev pub joined : List (List ℕ) → List ℕ
joined [] = []
joined (w ∷ ws) = w ++ spaced ws

-- a byte in front of the first text of a list
abbrev pub in_front : ℕ → List (List ℕ) → List (List ℕ)
in_front b [] = (b ∷ []) ∷ []
in_front b (t ∷ ts) = (b ∷ t) ∷ ts

-- the lines of a text: each ends with a line feed, which the last may lack
abbrev pub split_lines : List ℕ → List (List ℕ)
split_lines [] = []
split_lines (b ∷ rest) = if b == line_feed then [] ∷ split_lines rest else in_front b (split_lines rest)

-- the words of a line: two are parted by one blank, so that a second blank leaves a word without bytes
abbrev pub words_in : List ℕ → List (List ℕ)
words_in [] = [] ∷ []
words_in (b ∷ rest) = if b == blank then [] ∷ words_in rest else in_front b (words_in rest)

-- a decimal digit
abbrev pub is_decimal_digit : ℕ → Bool
is_decimal_digit b = nat_le 48 b && nat_le b 57

-- a hexadecimal digit in lower case
abbrev pub is_hex_digit : ℕ → Bool
is_hex_digit b = is_decimal_digit b || (nat_le 97 b && nat_le b 102)

-- digits, and no zero before another digit
abbrev pub is_decimal : List ℕ → Bool
is_decimal [] = false
is_decimal (b ∷ []) = is_decimal_digit b
is_decimal (b ∷ c ∷ rest) = nat_lt 48 b && list_all is_decimal_digit (b ∷ c ∷ rest)

-- the number that a word of decimal digits says
abbrev pub decimal_word : List ℕ → Option ℕ
decimal_word w = if is_decimal w then Some (digits_value 10 w) else None

-- the number that 0x and so many hexadecimal digits say
abbrev pub hex_word : (count : ℕ) → List ℕ → Option ℕ
hex_word count (b ∷ c ∷ ds) = if (b == 48) && (c == 120) && (length ds == count) && list_all is_hex_digit ds then Some (digits_value 16 ds) else None
hex_word count other = None

-- a blank or a tab
abbrev pub is_blank : ℕ → Bool
is_blank b = (b == 32) || (b == 9)

-- a digit of a base of 10 or 16
abbrev pub is_digit_of : ℕ → ℕ → Bool
is_digit_of base b = nat_lt (digit_value b) base

-- digits of a base, at least one
abbrev pub are_digits : ℕ → List ℕ → Bool
are_digits base [] = false
are_digits base (b ∷ rest) = list_all (is_digit_of base) (b ∷ rest)

-- a number that is at most a bound
abbrev pub at_most : ℕ → Option ℕ → Option ℕ
at_most bound None = None
at_most bound (Some n) = if nat_le n bound then Some n else None
