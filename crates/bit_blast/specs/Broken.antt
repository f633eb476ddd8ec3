-- A byte that goes against a byte of the file.
use Rattle.std.specs.Prelude.{ℕ, Bool, false, not, ◌==◌, Option, Some, None}

-- another byte is known than that of a read
abbrev pub is_other : Option ℕ → (byte : ℕ) → Bool
is_other None b = false
is_other (Some known) b = not (known == b)
