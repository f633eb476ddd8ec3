-- Addresses of known bytes that are asked.
use Rattle.std.specs.Prelude.{ℕ, ◌≡◌, ◌<◌, ◌≤◌, ◌+◌, ◌^◌, ◌⊎◌, List, Some, length, map, slice_index, Contains}
use Rattle.walk_spec.specs.Unrolled.{ByteRun, byte_of_runs}
use Rattle.known_bytes.specs.declared.listing.Known.{Known}
use Rattle.known_bytes.specs.Runs.{run_of}

-- numbers in strictly rising order
abbrev pub AreRising : List ℕ → Type 0
AreRising list = (i j : ℕ) → i < j → j < length list → slice_index list i < slice_index list j

-- rising addresses of known bytes
pub record AreAdded (runs : List ByteRun) (added : List ℕ) : Type 0 where
  pub rise : AreRising added
  pub known : (a : ℕ) → Contains added a → (a < 2 ^ 32) × ((b : ℕ) × (byte_of_runs runs a ≡ Some b))

-- some more, of which none was among those
pub record AreFurther (runs : List ByteRun) (added further : List ℕ) : Type 0 where
  pub are : AreAdded runs further
  pub some : 0 < length further
  pub new : (a : ℕ) → Contains further a → ¬ Contains added a

-- more than before, those before among them
pub record AreMore (runs : List ByteRun) (added more : List ℕ) : Type 0 where
  pub are : AreAdded runs more
  pub longer : length added < length more
  pub keep : (a : ℕ) → Contains added a → Contains more a

-- rising addresses of known bytes before one, of which none was among those that were added
pub record AreBeside (known : List Known) (added : List ℕ) (before : ℕ) (found : List ℕ) : Type 0 where
  pub rise : AreRising found
  pub known_byte : (a : ℕ) → Contains found a → (a < 2 ^ 32) × ((b : ℕ) × (byte_of_runs (map run_of known) a ≡ Some b))
  pub new : (a : ℕ) → Contains found a → ¬ Contains added a
  pub below : (a : ℕ) → Contains found a → a < before

-- the byte at an address is known
abbrev pub HasByte : List Known → ℕ → Type 0
HasByte known a = (b : ℕ) × (byte_of_runs (map run_of known) a ≡ Some b)

-- each broken address whose byte is known and not asked yet is found
abbrev pub AreBrokenFound : List Known → (added broken found : List ℕ) → Type 0
AreBrokenFound known added broken found = (a : ℕ) → Contains broken a → HasByte known a → ¬ Contains added a → Contains found a

-- each address from one on and before an end whose byte is known and not asked yet is found
abbrev pub IsStretchFound : List Known → (added : List ℕ) → (first end : ℕ) → (found : List ℕ) → Type 0
IsStretchFound known added first end found = (a : ℕ) → first ≤ a → a < end → HasByte known a → ¬ Contains added a → Contains found a

-- Of two rising lists without common elements the first ones of each are put together, rising, before all that are left.
pub record IsMerging (xs ys : List ℕ) (i j : ℕ) (joined : List ℕ) : Type 0 where
  pub rise : AreRising joined
  pub only : (a : ℕ) → Contains joined a → Contains xs a ⊎ Contains ys a
  pub kept : (n : ℕ) → n < i → Contains joined (slice_index xs n)
  pub kept_second : (n : ℕ) → n < j → Contains joined (slice_index ys n)
  pub count : length joined ≡ i + j
  pub below : (a : ℕ) → Contains joined a → i < length xs → a < slice_index xs i
  pub under : (a : ℕ) → Contains joined a → j < length ys → a < slice_index ys j

-- two lists are put together
pub record IsMerged (xs ys joined : List ℕ) : Type 0 where
  pub rise : AreRising joined
  pub only : (a : ℕ) → Contains joined a → Contains xs a ⊎ Contains ys a
  pub keep : (a : ℕ) → Contains xs a → Contains joined a
  pub keep_second : (a : ℕ) → Contains ys a → Contains joined a
  pub count : length joined ≡ length xs + length ys
