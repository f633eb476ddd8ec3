-- Arrays as one value everywhere and changes of it.
use Rattle.std.specs.Prelude.{ℕ, ◌<◌, ◌^◌, ◌==◌, Bool, true, not, if◌then◌else◌, List, [], ◌∷◌, All}

-- the byte at an address: of the last change there, or else the one everywhere
abbrev pub last_byte : (fill : ℕ) → List (ℕ × ℕ) → ℕ → ℕ
last_byte fill [] a = fill
last_byte fill (b ∷ rest) a = last_byte (if a == b.0 then b.1 else fill) rest a

-- the byte that a list of addresses with their bytes gives, or else the one everywhere; the first of an address counts
abbrev pub byte_or : (fill : ℕ) → List (ℕ × ℕ) → ℕ → ℕ
byte_or fill [] a = fill
byte_or fill (b ∷ rest) a = if a == b.0 then b.1 else byte_or fill rest a

-- addresses with their bytes
abbrev pub AreBytes : List (ℕ × ℕ) → Type 0
AreBytes bytes = All (λ b. (b.0 < 2 ^ 32) × (b.1 < 256)) bytes

-- the last of each address, where those of one address stand together
abbrev pub last_of_each : List (ℕ × ℕ) → List (ℕ × ℕ)
last_of_each [] = []
last_of_each (x ∷ []) = x ∷ []
last_of_each (x ∷ y ∷ rest) = if x.0 == y.0 then last_of_each (y ∷ rest) else x ∷ last_of_each (y ∷ rest)

-- the one at a place is
abbrev pub is_last_of : List (ℕ × ℕ) → Bool
is_last_of [] = true
is_last_of (x ∷ []) = true
is_last_of (x ∷ y ∷ rest) = not (x.0 == y.0)
