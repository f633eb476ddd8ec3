-- The byte order that a number says.
use Rattle.std.specs.Prelude.{ℕ, ◌==◌, not}
use Rattle.word_spec.specs.Memory.{Endian, endian}

-- 0 is little, any other number big
abbrev pub order_of : ℕ → Endian
order_of big = endian (not (big == 0))
