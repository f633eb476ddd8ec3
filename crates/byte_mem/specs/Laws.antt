-- Laws of kept memories.
use Rattle.std.specs.Prelude.{ℕ, ◌≡◌, ◌<◌, ◌^◌, List}
use Rattle.word_spec.specs.Memory.{memory_of}
use Rattle.byte_mem.specs.Kept.{IsKept}

-- kept lists whose memories are equal at every address of 32 bits are equal
abbrev pub OneList : Type 0
OneList = (xs ys : List (ℕ × ℕ)) → IsKept xs → IsKept ys → ((a : ℕ) → a < 2 ^ 32 → memory_of xs a ≡ memory_of ys a) → xs ≡ ys
