-- Bytes that are written to entries.
use Rattle.std.specs.Prelude.{ℕ, ◌≡◌, ◌≤◌, ◌<◌, ◌+◌, ◌^◌, ◌==◌, List, [], ◌∷◌, length, get_or, nat_lt, if◌then◌else◌}
use Rattle.word_spec.specs.Words.{sub}
use Rattle.word_spec.specs.Memory.{byte_in}
use Rattle.byte_mem.specs.Kept.{IsKept}

-- kept entries of bytes
pub record IsMemory (es : List (ℕ × ℕ)) : Type 0 where
  pub kept : IsKept es
  pub fits : (x : ℕ) → byte_in es x < 256

-- the entry of an address stands at a place
abbrev pub IsAt : List (ℕ × ℕ) → ℕ → ℕ → Type 0
IsAt es i a = (i < length es) × ((get_or es i (0, 0)).0 ≡ a)

-- a byte was written, and all others are as they were
abbrev pub IsPut : List (ℕ × ℕ) → ℕ → ℕ → List (ℕ × ℕ) → Type 0
IsPut old a byte new = (x : ℕ) → byte_in new x ≡ (if x == a then byte else byte_in old x)

-- the first n bytes were written from an address on; addresses wrap
pub record PutsTo (old : List (ℕ × ℕ)) (first : ℕ) (bytes : List ℕ) (n : ℕ) (new : List (ℕ × ℕ)) : Type 0 where
  pub each : (x : ℕ) → x < 2 ^ 32 → byte_in new x ≡ (if nat_lt (sub 32 x first) n then get_or bytes (sub 32 x first) 0 else byte_in old x)

-- where the entries around an address stand: those below it before low, those above it from high on
pub record AreAround (es : List (ℕ × ℕ)) (a low high : ℕ) : Type 0 where
  pub ordered : low ≤ high
  pub within : high ≤ length es
  pub before_low : (k : ℕ) (d : ℕ × ℕ) → k < low → (get_or es k d).0 < a
  pub from_low : (k : ℕ) (d : ℕ × ℕ) → low ≤ k → k < length es → a ≤ (get_or es k d).0
  pub before_high : (k : ℕ) (d : ℕ × ℕ) → k < high → (get_or es k d).0 < a + 1
  pub from_high : (k : ℕ) (d : ℕ × ℕ) → high ≤ k → k < length es → a + 1 ≤ (get_or es k d).0

-- the entries of one byte: none where it is 0
abbrev pub entries_at : ℕ → ℕ → List (ℕ × ℕ)
entries_at a byte = if byte == 0 then [] else (a, byte) ∷ []
