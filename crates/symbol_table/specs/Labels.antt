-- The symbol by which an address is told: that of the greatest value which is not above the address.
use Rattle.std.specs.Prelude.{ℕ, ◌==◌, ◌&&◌, Bool, false, not, nat_le, nat_lt, if◌then◌else◌, List, [], ◌∷◌, Option, Some, None}
use Rattle.symbol_table.specs.Symbols.{Symbol}

-- a name that tells a place: it has a byte, and is none of a mapping symbol or of a label within a function, which begin with a dollar sign and with a dot
abbrev pub is_telling : List ℕ → Bool
is_telling [] = false
is_telling (b ∷ rest) = not (b == 36) && not (b == 46)

-- the symbol may tell an address
abbrev pub reaches : ℕ → Symbol → Bool
reaches a s = is_telling s.name && nat_le s.value a

-- the symbol that tells an address so far, and another one: the first where both have one value
abbrev pub nearer : ℕ → Option Symbol → Symbol → Option Symbol
nearer a None s = if reaches a s then Some s else None
nearer a (Some t) s = if reaches a s && nat_lt t.value s.value then Some s else Some t

-- among more symbols
abbrev pub nearest_from : ℕ → Option Symbol → List Symbol → Option Symbol
nearest_from a found [] = found
nearest_from a found (s ∷ rest) = nearest_from a (nearer a found s) rest

-- the symbol of a table that tells an address
abbrev pub label_at : ℕ → List Symbol → Option Symbol
label_at a table = nearest_from a None table
