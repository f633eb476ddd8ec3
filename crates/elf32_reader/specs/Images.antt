-- How what an image keeps is tied to the bytes of its file.
use Rattle.std.specs.Prelude.{ℕ, ◌≡◌, ◌≤◌, ◌<◌, ◌+◌, ◌^◌, ◌||◌, ◌↔◌, ◌≢◌, ◌-◌, ◌++◌, [], ◌∷◌, not, Bool, List, length, Some, slice_get, slice_index_or, slice_set, true}
use Rattle.std.specs.List.{count_by, All}
use Rattle.std.specs.List.Sorted.{IsNonDecreasingBy}
use Rattle.bilv_spec.specs.Elf.{segments, covers, executable, writable, IsInRuns, IsKeptRuns}
use Rattle.bilv_spec.specs.ElfFaults.{IsImage}
use Rattle.elf32_reader.specs.declared.segments.ProgramHeader.{ProgramHeader}
use Rattle.elf32_reader.specs.Loads.{segment, has_addresses, layers, IsApart}

-- the segments of the file that have addresses, by rising addresses
pub record IsListed (file : List ℕ) (found : List ProgramHeader) : Type 0 where
  pub rising : IsNonDecreasingBy (λ h. h.address) found
  pub solid : All (λ h. has_addresses (segment h) ≡ true) found
  pub members : All (λ h. (i : ℕ) × (slice_get (segments file) i ≡ Some (segment h))) found
  pub layered : (a : ℕ) → layers a found ≡ count_by (covers a) (segments file)

-- they stand apart, and each lies in the file and in memory
pub record IsTied (file : List ℕ) (found : List ProgramHeader) : Type 0 where
  pub listed : IsListed file found
  pub apart : IsApart found
  pub inside : All (λ h. h.offset + h.in_file ≤ length file) found
  pub below : All (λ h. h.address + h.in_memory ≤ 2 ^ 32) found

-- an image of a file that no fault refuses
pub record IsRead (file : List ℕ) (found : List ProgramHeader) (runs : List (ℕ × ℕ)) : Type 0 where
  pub image : IsImage file
  pub tied : IsTied file found
  pub kept : IsKeptRuns file runs

-- the bytes of a segment with these flags are kept
abbrev pub keeps : ℕ → Bool
keeps flags = executable flags || not (writable flags)

-- one of the first n segments covers the address with a kept byte
abbrev pub IsKeptBelow : List ProgramHeader → ℕ → ℕ → Type 0
IsKeptBelow found n a =
    (k : ℕ) × (h : ProgramHeader) × (k < n) × (slice_get found k ≡ Some h) × (covers a (segment h) ≡ true) × (keeps h.flags ≡ true)

-- the runs are those of the first n segments
pub record IsRunsTo (found : List ProgramHeader) (n : ℕ) (runs : List (ℕ × ℕ)) : Type 0 where
  pub filled : (i : ℕ) → i < length runs → (slice_index_or runs i (0, 0)).0 ≤ (slice_index_or runs i (0, 0)).1
  pub apart : (i : ℕ) → i + 1 < length runs → (slice_index_or runs i (0, 0)).1 + 1 < (slice_index_or runs (i + 1) (0, 0)).0
  pub exact : (a : ℕ) → IsKeptBelow found n a ↔ IsInRuns runs a

-- the last run goes on up to a later address
pub record ExtendsRun (old : List (ℕ × ℕ)) (first last : ℕ) (new : List (ℕ × ℕ)) : Type 0 where
  pub some : 0 < length old
  pub meets : (slice_index_or old (length old - 1) (0, 0)).1 + 1 ≡ first
  pub is : new ≡ slice_set old (length old - 1) ((slice_index_or old (length old - 1) (0, 0)).0, last)

-- a run comes behind the last, which does not meet it
pub record PushesRun (old : List (ℕ × ℕ)) (first last : ℕ) (new : List (ℕ × ℕ)) : Type 0 where
  pub gap : 0 < length old → (slice_index_or old (length old - 1) (0, 0)).1 + 1 ≢ first
  pub is : new ≡ old ++ (first, last) ∷ []
