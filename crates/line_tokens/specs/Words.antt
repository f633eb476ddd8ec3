-- Words for the splitting of texts.
use Rattle.std.specs.Prelude.{ℕ, ◌==◌, ◌&&◌, Bool, not, List, Option, Some, None, length, if◌then◌else◌}
use Rattle.std.specs.List.{list_all}
use Rattle.std.specs.Str.Parse.{digits_value}
use Rattle.word_spec.specs.Texts.{is_hex_digit}

-- a byte is another one
abbrev pub is_other : ℕ → ℕ → Bool
is_other end b = not (b == end)

-- the number of so many hexadecimal digits
abbrev pub hex_value : (count : ℕ) → List ℕ → Option ℕ
hex_value count ds = if (length ds == count) && list_all is_hex_digit ds then Some (digits_value 16 ds) else None
