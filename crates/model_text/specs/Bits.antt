-- Words of bits, token by token.
use Rattle.std.specs.Prelude.{ℕ, ◌*◌, ◌^◌, ◌==◌, ◌&&◌, Bool, true, false, min, if◌then◌else◌, List, [], ◌∷◌, Option, Some, None, is_some, length, codes}
use Rattle.std.specs.List.{list_all}
use Rattle.std.specs.Str.Parse.{digits_value}
use Rattle.word_spec.specs.Texts.{decimal_word}
use Rattle.bilv_spec.specs.SmtLib.{is_binary_digit}
use Rattle.model_spec.specs.ModelText as text
use Rattle.model_spec.specs.ModelText.{ModelToken, is_hex}
use Rattle.model_text.specs.declared.bits.Bits.{Bits}
use Rattle.model_text.specs.declared.bits.BitsPlace.{BitsPlace}
use Rattle.model_text.specs.declared.bits.BitsPlace.TheVariants.{Wanted, Opened, Number, Width, Close, Whole}
use Rattle.model_text.specs.Tokens.{is_open, is_close, is_the_word, when}

-- the number that stands for all that have more than 32 bits
abbrev pub capped : ℕ → ℕ
capped n = min n (2 ^ 32)

abbrev pub capped_bits : Bits → Bits
capped_bits b = record { width = capped b.width; number = capped b.number }

-- how many bits a word of #x or #b and digits has, and its value
abbrev pub literal_of : List ℕ → Option Bits
literal_of [] = None
literal_of (a ∷ []) = None
literal_of (a ∷ b ∷ []) = None
literal_of (a ∷ b ∷ d ∷ ds) =
    if (a == 35) && (b == 120) && list_all is_hex (d ∷ ds) then Some (record { width = 4 * length (d ∷ ds); number = digits_value 16 (d ∷ ds) }) else
    if (a == 35) && (b == 98) && list_all is_binary_digit (d ∷ ds) then Some (record { width = length (d ∷ ds); number = digits_value 2 (d ∷ ds) }) else None

-- the token's word is one
abbrev pub literal : ModelToken → Option Bits
literal (text.Word w) = literal_of w
literal text.Open = None
literal text.Close = None
literal (text.Quoted w) = None
literal text.Text = None
literal text.Bad = None

-- the number that bv and decimal digits say
abbrev pub bv_word : List ℕ → Option ℕ
bv_word [] = None
bv_word (b ∷ []) = None
bv_word (b ∷ v ∷ ds) = if (b == 98) && (v == 118) then decimal_word ds else None

abbrev pub bv_number : ModelToken → Option ℕ
bv_number (text.Word w) = bv_word w
bv_number text.Open = None
bv_number text.Close = None
bv_number (text.Quoted w) = None
bv_number text.Text = None
bv_number text.Bad = None

-- the number that decimal digits say
abbrev pub numeral : ModelToken → Option ℕ
numeral (text.Word w) = decimal_word w
numeral text.Open = None
numeral text.Close = None
numeral (text.Quoted w) = None
numeral text.Text = None
numeral text.Bad = None

-- where the reading stands behind one more token
abbrev pub bits_next : BitsPlace → ModelToken → Option BitsPlace
bits_next Wanted t = if is_open t then Some Opened else when (is_some (literal t)) Whole
bits_next Opened t = when (is_the_word (codes "_") t) Number
bits_next Number t = when (is_some (bv_number t)) Width
bits_next Width t = when (is_some (numeral t)) Close
bits_next Close t = when (is_close t) Whole
bits_next Whole t = None

abbrev pub or_bits : Option Bits → Bits → Bits
or_bits None b = b
or_bits (Some a) b = a

abbrev pub with_number : Option ℕ → Bits → Bits
with_number None b = b
with_number (Some n) b = record { width = b.width; number = n }

abbrev pub with_width : Option ℕ → Bits → Bits
with_width None b = b
with_width (Some n) b = record { width = n; number = b.number }

-- what is known of the word behind one more token
abbrev pub bits_traced : BitsPlace → ModelToken → Bits → Bits
bits_traced Wanted t b = or_bits (literal t) b
bits_traced Opened t b = b
bits_traced Number t b = with_number (bv_number t) b
bits_traced Width t b = with_width (numeral t) b
bits_traced Close t b = b
bits_traced Whole t b = b

-- the word of bits is whole
abbrev pub is_whole : Option BitsPlace → Bool
is_whole None = false
is_whole (Some Whole) = true
is_whole (Some Wanted) = false
is_whole (Some Opened) = false
is_whole (Some Number) = false
is_whole (Some Width) = false
is_whole (Some Close) = false
