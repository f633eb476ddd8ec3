-- Runs of known bytes.
use Rattle.std.specs.Prelude.{ℕ, ◌≡◌, ◌≤◌, ◌<◌, ◌+◌, ◌-◌, ◌↔◌, Bool, true, List, None, Contains, length, map, sum_by, nat_lt, slice_index, slice_index_or, if◌then◌else◌}
use Rattle.bilv_spec.specs.Notes.{FixedRange}
use Rattle.walk_spec.specs.Unrolled.{ByteRun, byte_of_runs}
use Rattle.known_bytes.specs.declared.listing.Known.{Known}
use Rattle.known_bytes.specs.Known.{is_known, given}

-- a run, as definitions see it
abbrev pub run_of : Known → ByteRun
run_of k = record { at = k.first; count = k.last - k.first + 1; bytes = k.bytes.now }

-- how many bytes runs have
abbrev pub sum_of : List Known → ℕ
sum_of runs = sum_by (λ r. r.count) (map run_of runs)

-- no run is empty, and each lies behind those before it
pub record AreRuns (runs : List Known) : Type 0 where
  pub some : (i : ℕ) (d : Known) → i < length runs → (slice_index_or runs i d).first ≤ (slice_index_or runs i d).last
  pub rising : (i j : ℕ) (d : Known) → i < j → j < length runs → (slice_index_or runs i d).last < (slice_index_or runs j d).first

-- how many addresses before one pass a test
abbrev pub IsCountTo : (ℕ → Bool) → (upto n : ℕ) → Type 0
IsCountTo test upto n =
    (places : List ℕ) × (length places ≡ n) × ((i j : ℕ) → i < j → j < length places → slice_index places i < slice_index places j)
    × ((a : ℕ) → Contains places a ↔ ((a < upto) × (test a ≡ true)))

-- the runs have the known bytes before an address, and no others
pub record HasKnownTo (file : List ℕ) (ranges : List FixedRange) (upto : ℕ) (runs : List Known) (count : ℕ) : Type 0 where
  pub are : AreRuns runs
  pub before : (i : ℕ) (d : Known) → i < length runs → (slice_index_or runs i d).last < upto
  pub bytes : (x : ℕ) → byte_of_runs (map run_of runs) x ≡ (if nat_lt x upto then given file ranges x else None)
  pub sum : sum_of runs ≡ count
  pub count_is : IsCountTo (is_known file ranges) upto count
  pub few : count ≤ upto
