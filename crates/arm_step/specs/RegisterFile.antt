-- Registers that are kept as a list.
use Rattle.std.specs.Prelude.{ℕ, List, get_or}

-- the word of each register, by number
abbrev pub registers_of : List ℕ → ℕ → ℕ
registers_of words r = get_or words r 0
