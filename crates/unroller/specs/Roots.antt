-- Roots by the numbers of where segments begin.
use Rattle.std.specs.Prelude.{ℕ, ◌≡◌, ◌<◌, false, List, Option, Some, None, length, slice_index, slice_index_or}
use Rattle.program_points.specs.declared.values.Root as listed
use Rattle.question_form.specs.declared.unrolled.Root.{Root}
use Rattle.unroller.specs.Keys.{head_of, key_of}
use Rattle.unroller.specs.Places.{IsGroup}

-- the number of the first point of a root
abbrev pub first_key : (entry n : ℕ) → Option listed.Root → ℕ
first_key entry n None = key_of n 0 entry 0 false
first_key entry n (Some r) = key_of n 0 r.at r.stack false

-- a head's part of the assert lines by address, and none for the entry
abbrev pub IsGroupOf : (asserts : List (ℕ × ℕ)) → Option listed.Root → ℕ × ℕ → Type 0
IsGroupOf asserts None bounds = bounds ≡ (0, 0)
IsGroupOf asserts (Some r) bounds = IsGroup asserts r.at bounds

-- the root of a number, at the place of its first point
pub record IsRootAt (segments keys : List ℕ) (asserts : List (ℕ × ℕ)) (entry n : ℕ) (x : Root) : Type 0 where
  pub head : x.head ≡ head_of (slice_index segments n)
  pub within : x.place < length keys
  pub place : slice_index keys x.place ≡ first_key entry n (head_of (slice_index segments n))
  pub group : IsGroupOf asserts (head_of (slice_index segments n)) x.asserts

-- the first roots
pub record AreRoots (segments keys : List ℕ) (asserts : List (ℕ × ℕ)) (entry n : ℕ) (roots : List Root) : Type 0 where
  pub count : length roots ≡ n
  pub each : (i : ℕ) (d : Root) → i < n → IsRootAt segments keys asserts entry i (slice_index_or roots i d)
