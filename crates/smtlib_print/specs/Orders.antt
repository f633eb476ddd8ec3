-- The order of points in scripts, as an order of lists of numbers, and points that are put into it.
use Rattle.std.specs.Prelude.{ℕ, ◌≡◌, ◌<◌, ◌&&◌, Bool, List, [], ◌∷◌, Some, length, map, slice_get, slice_index, slice_index_or}
use Rattle.std.specs.Cmp.Lexicographic.{slice_cmp}
use Rattle.std.specs.Ordering.{nat_cmp, is_lt}
use Rattle.std.specs.List.Sorted.{IsSortedBy}
use Rattle.std.specs.declared.cmp.Ordering.{Ordering}
use Rattle.word_spec.specs.Words.{bit}
use Rattle.frame_spec.specs.FramePoints.{Anchor, AtEntry, AtHead, Point}
use Rattle.program_points.specs.Listed.{anchor_of}
use Rattle.program_points.specs.Tables.{stack_at, stacks_of}
use Rattle.program_points.specs.declared.values.Frame.{Frame}
use Rattle.question_form.specs.declared.unrolled.Point as declared
use Rattle.question_form.specs.declared.unrolled.Root.{Root}
use Rattle.question_form.specs.declared.unrolled.Unrolled.{Unrolled}
use Rattle.question_form.specs.FrameViews.{is_contract, no_root}
use Rattle.question_form.specs.Views.{code_of}
use Rattle.smtlib_print.specs.declared.ordering.Placed.{Placed}

-- the addresses of a stack from the bottom, and others behind them
abbrev pub from_bottom : List ℕ → List ℕ → List ℕ
from_bottom [] rest = rest
from_bottom (a ∷ s) rest = from_bottom s (a ∷ rest)

-- what is compared of a stack and an address, one by one: how many addresses the stack has, those from the bottom, and the address
abbrev pub spot_key : (stack : List ℕ) → (at : ℕ) → List ℕ → List ℕ
spot_key s a rest = length s ∷ from_bottom s (a ∷ rest)

-- what is compared of an anchor: the entry's comes first
abbrev pub anchor_key : Anchor → List ℕ → List ℕ
anchor_key AtEntry rest = 0 ∷ rest
anchor_key (AtHead s a) rest = 1 ∷ spot_key s a rest

-- what is compared of a point: its anchor, its backward transfers, its stack, its address, and whether a contract step is made there
abbrev pub point_key : Point → List ℕ
point_key q = anchor_key q.anchor (q.turns ∷ spot_key q.stack q.at (bit q.contract ∷ []))

-- the order of points
abbrev pub point_order : Point → Point → Ordering
point_order x y = slice_cmp nat_cmp (point_key x) (point_key y)

-- the order of anchors
abbrev pub anchor_order : Anchor → Anchor → Ordering
anchor_order x y = slice_cmp nat_cmp (anchor_key x []) (anchor_key y [])

-- the order of stacks with an address
abbrev pub spot_order : (s : List ℕ) → (a : ℕ) → (t : List ℕ) → (b : ℕ) → Ordering
spot_order s a t b = slice_cmp nat_cmp (spot_key s a []) (spot_key t b [])

-- the order of stacks that have as many addresses
abbrev pub stack_order : List ℕ → List ℕ → Ordering
stack_order s t = slice_cmp nat_cmp (from_bottom s []) (from_bottom t [])

-- how many addresses each stack has, by its number
abbrev pub AreDepths : List Frame → List ℕ → Type 0
AreDepths frames depths = (n : ℕ) → slice_index depths n ≡ length (stack_at frames n)

-- A point whose segment begins at one of some roots; where there is no root of its number, it is the entry's. steps: contract steps are told from rows.
abbrev pub point_by : Unrolled → (steps : Bool) → List Root → declared.Point → Point
point_by u steps roots q = record {
  anchor = anchor_of (stacks_of u.frames.items) (slice_index_or roots q.root no_root).head;
  turns = q.turns;
  contract = steps && is_contract q.deed;
  stack = stack_at u.frames.items q.stack;
  at = (code_of u q).at;
}

abbrev pub points_by : Unrolled → (steps : Bool) → List Root → List Point
points_by u steps roots = map (point_by u steps roots) u.points.items

-- a point that is placed
abbrev pub placed_point : List Frame → Placed → Point
placed_point frames x = record {
  anchor = anchor_of (stacks_of frames) x.root;
  turns = x.turns;
  contract = x.contract;
  stack = stack_at frames x.stack;
  at = x.at;
}

-- it is the point at its place
abbrev pub IsPlacedAt : (all : List Point) → List Frame → ℕ → Placed → Type 0
IsPlacedAt all frames i x = (x.place ≡ i) × (slice_get all i ≡ Some (placed_point frames x))

-- the points in the order of their places
abbrev pub ArePlaced : (all : List Point) → List Frame → List Placed → Type 0
ArePlaced all frames xs = (length xs ≡ length all) × ((i : ℕ) (d : Placed) → i < length xs → IsPlacedAt all frames i (slice_index_or xs i d))

-- the order of placed points
abbrev pub placed_order : List Frame → Placed → Placed → Ordering
placed_order frames x y = point_order (placed_point frames x) (placed_point frames y)

-- placed points that rise
abbrev pub AreSorted : List Frame → List Placed → Type 0
AreSorted frames = IsSortedBy (λ x y. is_lt (placed_order frames x y))

-- to each place of one of the points belongs the number of one of them that has this place
abbrev pub AreInverse : List Placed → List ℕ → Type 0
AreInverse xs numbers = (i : ℕ) (d : Placed) → i < length xs →
    (slice_index numbers (slice_index_or xs i d).place < length xs)
    × ((slice_index_or xs (slice_index numbers (slice_index_or xs i d).place) d).place ≡ (slice_index_or xs i d).place)
