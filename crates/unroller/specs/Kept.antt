-- Runs of kept addresses, as definitions see them.
use Rattle.std.specs.Prelude.{ℕ, ◌≡◌, ◌<◌, ◌^◌, List, length, map, slice_index_or}
use Rattle.bilv_spec.specs.Elf.{IsKeptRuns, kept_at}
use Rattle.walk_spec.specs.Unrolled.{is_in}
use Rattle.walk_spec.specs.Unrolling.{AreRuns}
use Rattle.question_form.specs.Views.{kept_of}

-- the maximal runs of kept addresses of a file, all of them words, are runs that have just these addresses
abbrev pub KeptRunsAreRight : Type 0
KeptRunsAreRight = (file : List ℕ) (runs : List (ℕ × ℕ)) → IsKeptRuns file runs → ((i : ℕ) → i < length runs → (slice_index_or runs i (0, 0)).1 < 2 ^ 32) →
    ((a : ℕ) → is_in (map kept_of runs) a ≡ kept_at file a) × AreRuns (map kept_of runs)
