-- Bytes of a run in a memory.
use Rattle.std.specs.Prelude.{ℕ, ◌<◌, ◌+◌, ◌-◌, ◌&&◌, nat_le, nat_lt, slice_index, if◌then◌else◌}
use Rattle.word_spec.specs.Memory.{Memory}
use Rattle.known_bytes.specs.declared.listing.Known.{Known}

-- the byte at an address once the first bytes of a run are stored
abbrev pub filled : Known → (count x old : ℕ) → ℕ
filled r n x old = if nat_le r.first x && nat_lt x (r.first + n) then slice_index r.bytes.now (x - r.first) else old

-- a memory of bytes
abbrev pub AreBytes : Memory → Type 0
AreBytes m = (a : ℕ) → m a < 256
