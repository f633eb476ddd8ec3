-- Where segments begin among the points of an unrolled frame as a value.
use Rattle.std.specs.Prelude.{ℕ, ◌≡◌, ◌<◌, List, None, length, slice_index_or}
use Rattle.question_form.specs.declared.unrolled.Deed.TheVariants.{Row}
use Rattle.question_form.specs.declared.unrolled.Point.{Point}
use Rattle.question_form.specs.declared.unrolled.Unrolled.{Unrolled}
use Rattle.question_form.specs.FrameViews.{no_root}

-- a point behind the last
abbrev pub no_point : Point
no_point = record { root = 0; turns = 0; code = 0; stack = 0; deed = Row; edges = 0 }

-- the number of the root of the point at a place
abbrev pub root_of_point : List Point → (place : ℕ) → ℕ
root_of_point points i = (slice_index_or points i no_point).root

-- each root begins at a point of its own
abbrev pub BeginAtOwn : Unrolled → Type 0
BeginAtOwn u = (n : ℕ) → n < length u.roots.items → root_of_point u.points.items (slice_index_or u.roots.items n no_root).place ≡ n

-- the entry's root is the first
abbrev pub IsEntryFirst : Unrolled → Type 0
IsEntryFirst u = (0 < length u.roots.items) × ((slice_index_or u.roots.items 0 no_root).head ≡ None)
