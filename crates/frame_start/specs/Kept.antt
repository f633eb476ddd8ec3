-- Kept bytes of a run in a memory.
use Rattle.std.specs.Prelude.{ℕ, if◌then◌else◌, List}
use Rattle.walk_spec.specs.Unrolled.{AddressRun, is_in}
use Rattle.known_bytes.specs.declared.listing.Known.{Known}
use Rattle.bit_blast.specs.Stored.{filled}

-- the byte at an address once the first bytes of a run are stored where they are kept
abbrev pub filled_kept : List AddressRun → Known → (count x old : ℕ) → ℕ
filled_kept kept r n x old = if is_in kept x then filled r n x old else old
