-- The forms of a template that stand for numbers: what notes call an address or a size becomes the number that the file has.
use Rattle.std.specs.Prelude.{ℕ, zero, suc, ◌+◌, ◌-◌, ◌%◌, ◌^◌, ◌==◌, ◌&&◌, ◌||◌, Bool, true, false, nat_lt, if◌then◌else◌, List, [], ◌∷◌, ◌++◌, Option, Some, None, Result, Ok, Err, length, codes, drop, map, not}
use Rattle.std.specs.Option.{option_map}
use Rattle.std.specs.Str.{bytes_eq}
use Rattle.std.specs.Str.Lossy.{utf8_lossy}
use Rattle.word_spec.specs.Texts.{word_text}
use Rattle.word_spec.specs.Tokens.{Token, NumberToken, tokens_of, name_at, goes_on_name, is_digit, stops}
use Rattle.line_tokens.specs.Tokens.{capped}
use Rattle.symbol_table.specs.Symbols.{Symbol, Lookup, Missing, One, Ambiguous, lookup}

-- why a line is refused; the nearest name is told as text
pub data Refusal : Type 0 where
  UnknownSymbol : (near : Option (List ℕ)) → Refusal
  AmbiguousSymbol : Refusal
  WrongForm : Refusal
  LongLine : Refusal

-- where in a line, by the number of the byte, and why
pub record Fault : Type 0 where
  pub column : ℕ
  pub refusal : Refusal

-- a text in front of a text, where that is one
abbrev pub behind : {E : Type 0} → List ℕ → Result (List ℕ) E → Result (List ℕ) E
behind front (Ok text) = Ok (front ++ text)
behind front (Err e) = Err e

-- What stands behind an @: a symbol's name, whether its size is meant, what is added to its value, and how many bytes the form has.
pub record Form : Type 0 where
  pub name : List ℕ
  pub is_size : Bool
  pub added : ℕ
  pub count : ℕ

-- the text begins with a byte
abbrev pub begins : ℕ → List ℕ → Bool
begins c [] = false
begins c (b ∷ rest) = b == c

-- the text begins with a digit
abbrev pub begins_number : List ℕ → Bool
begins_number [] = false
begins_number (b ∷ rest) = is_digit b

-- the tokens of a text, of which a number of 2 ^ 32 or more counts as 2 ^ 32
abbrev pub tokens_in : List ℕ → List Token
tokens_in text = map capped (tokens_of text)

-- the tokens are one number below 2 ^ 32
abbrev pub sole_number : List Token → Option ℕ
sole_number (NumberToken n ∷ []) = if nat_lt n (2 ^ 32) then Some n else None
sole_number other = None

-- a name, and a number that is added to its value or taken from it, modulo 2 ^ 32
abbrev pub sum_form : (name : List ℕ) → (is_plus : Bool) → (word : List ℕ) → Option Form
sum_form name is_plus word = option_map
    (λ n. record { name = name; is_size = false; added = if is_plus then n else 2 ^ 32 - n; count = length name + 1 + length word })
    (sole_number (tokens_in word))

-- a name behind the bracket of a size; behind the closing one no name goes on
abbrev pub size_form : (name rest : List ℕ) → Option Form
size_form name rest =
    if nat_lt 0 (length name) && begins 41 rest && stops (drop 1 rest)
    then Some (record { name = name; is_size = true; added = 0; count = length name + 6 }) else None

-- A name, with what stands behind it. A sign belongs to the form where a digit follows it.
abbrev pub form_with : (name rest : List ℕ) → Option Form
form_with name rest =
    if not (nat_lt 0 (length name)) then None else
    if bytes_eq name (codes "size") && begins 40 rest then size_form (name_at (drop 1 rest)) (drop (length (name_at (drop 1 rest))) (drop 1 rest)) else
    if (begins 43 rest || begins 45 rest) && begins_number (drop 1 rest) then sum_form name (begins 43 rest) (name_at (drop 1 rest)) else
    Some (record { name = name; is_size = false; added = 0; count = length name })

-- the form in front of a text: NAME, NAME+N, NAME-N or size(NAME)
abbrev pub form_at : List ℕ → Option Form
form_at text = form_with (name_at text) (drop (length (name_at text)) text)

-- the number of a form
abbrev pub number_of : Form → Lookup → Result ℕ Refusal
number_of form (Missing near) = Err (UnknownSymbol (option_map utf8_lossy near))
number_of form Ambiguous = Err AmbiguousSymbol
number_of form (One value size) = Ok (if form.is_size then size else (value + form.added) % 2 ^ 32)

-- the form's number in front of what stands behind it
abbrev pub placed : (column : ℕ) → Result ℕ Refusal → Result (List ℕ) Fault → Result (List ℕ) Fault
placed column (Ok n) rest = behind (word_text n) rest
placed column (Err r) rest = Err (record { column = column; refusal = r })

-- what stands for a form and what is behind it; the form may touch no name, number or form before it
abbrev pub replaced : List Symbol → (joined : Bool) → (column : ℕ) → Option Form → (rest : ℕ → Result (List ℕ) Fault) → Result (List ℕ) Fault
replaced table true column form rest = Err (record { column = column; refusal = WrongForm })
replaced table false column None rest = Err (record { column = column; refusal = WrongForm })
replaced table false column (Some form) rest = placed column (number_of form (lookup form.name table)) (rest form.count)

-- behind this byte no form may begin: a name, a number or a form ends there
abbrev pub is_joining : ℕ → Bool
is_joining b = (b == 64) || goes_on_name b

-- A text with a number in place of each form, which begins with an @, 64. skip: bytes that belong to the form before; joined: behind the byte before no form may
-- begin; column: the byte's number.
abbrev pub spelled : List Symbol → (joined : Bool) → (skip column : ℕ) → List ℕ → Result (List ℕ) Fault
spelled table joined skip column [] = Ok []
spelled table joined (suc skip) column (b ∷ rest) = spelled table joined skip (column + 1) rest
spelled table joined zero column (b ∷ rest) =
    if b == 64 then replaced table joined column (form_at rest) (λ skip. spelled table true skip (column + 1) rest) else
    behind (b ∷ []) (spelled table (is_joining b) 0 (column + 1) rest)
