-- Whether a machine has the compressed instructions, by a number.
use Rattle.std.specs.Prelude.{ℕ, Bool, ◌==◌, not}

-- 0 is off, any other number on
abbrev pub is_on : ℕ → Bool
is_on n = not (n == 0)
