-- What a list of points says of a program.
use Rattle.std.specs.Prelude.{ℕ, ◌≡◌, ◌≢◌, ◌+◌, ◌<◌, ◌≤◌, true, List, [], ◌∷◌, Option, Some, None, is_some, map, length, slice_get, slice_index_or}
use Rattle.machine_spec.specs.Machine.{Row}
use Rattle.bilv_spec.specs.Run.{Program}
use Rattle.bilv_spec.specs.Points as points
use Rattle.bilv_spec.specs.Points.{file_row, ArePoints, HasMore}
use Rattle.frame_spec.specs.Frames as frames
use Rattle.frame_spec.specs.Frames.{is_head, contract_at}
use Rattle.frame_spec.specs.FramePoints as frame_points
use Rattle.frame_spec.specs.FramePoints.{Anchor, AtEntry, AtHead}
use Rattle.program_points.specs.Tables.{is_among}
use Rattle.program_points.specs.declared.values.Frame.{Frame}
use Rattle.program_points.specs.declared.values.FramePoint.{FramePoint}
use Rattle.program_points.specs.declared.values.FramePoints.{FramePoints}
use Rattle.program_points.specs.declared.values.Root.{Root}
use Rattle.program_points.specs.declared.values.Point.{Point}
use Rattle.program_points.specs.declared.values.Points.{Points}
use Rattle.program_points.specs.declared.values.PointsFault.{PointsFault}
use Rattle.program_points.specs.declared.values.PointsFault.TheVariants.{TooMany, Memory}

-- no row of the program has both a direct and an indirect successor
pub record HasOneWay (p : Program) : Type 0 where
  pub direct : (a : ℕ) (row : Row) → file_row p a ≡ Some row → (row.successors a).indirect ≡ true → (row.successors a).direct ≡ None

-- the stacks by their numbers: the empty one, and each frame's top on the stack below it, which has a lower number; no two are equal
pub record AreStacks (frames : List Frame) (stacks : List (List ℕ)) : Type 0 where
  pub count : length stacks ≡ length frames + 1
  pub empty : slice_get stacks 0 ≡ Some []
  pub each : (i : ℕ) (f : Frame) → slice_get frames i ≡ Some f → (f.below ≤ i) × (slice_get stacks (i + 1) ≡ Some (f.top ∷ slice_index_or stacks f.below []))
  pub once : (i j : ℕ) → i < j → j < length stacks → slice_get stacks i ≢ slice_get stacks j

-- a point, its stack by number
abbrev pub point_of : List (List ℕ) → Point → points.Point
point_of stacks q = record { turns = q.turns; stack = slice_index_or stacks q.stack []; at = q.at }

-- the list is that of all points, each once
abbrev pub ArePointsOf : Program → ℕ → Points → Type 0
ArePointsOf p k v = (stacks : List (List ℕ)) × AreStacks v.stacks.frames.items stacks × ArePoints p k (map (point_of stacks) v.points.items)

-- there are more points than may be listed
abbrev pub IsTooMany : Program → ℕ → ℕ → PointsFault → Type 0
IsTooMany p k max (TooMany c) = HasMore p k max × (c ≡ max + 1)
IsTooMany p k max Memory = Unit {0}

-- the addresses are the frame's heads, and those of the contracts that its calls step over
pub record AreCuts (f : frames.Frame) (head_list stepped_list : List ℕ) : Type 0 where
  pub heads : (a : ℕ) → is_head f a ≡ is_among head_list a
  pub stepped : (a : ℕ) → is_some (contract_at f.stepped a) ≡ is_among stepped_list a

-- where a segment begins, its stack by number
abbrev pub anchor_of : List (List ℕ) → Option Root → Anchor
anchor_of stacks None = AtEntry
anchor_of stacks (Some r) = AtHead (slice_index_or stacks r.stack []) r.at

-- a point of a frame, its stacks by number
abbrev pub frame_point_of : List (List ℕ) → FramePoint → frame_points.Point
frame_point_of stacks q = record {
  anchor = anchor_of stacks q.root;
  turns = q.turns;
  contract = q.contract;
  stack = slice_index_or stacks q.stack [];
  at = q.at;
}

-- a point without its root and its contract step
abbrev pub plain_of : FramePoint → Point
plain_of q = record { turns = q.turns; stack = q.stack; at = q.at }

-- the list is that of all points of the frame, each once
abbrev pub AreFramePointsOf : frames.Frame → ℕ → FramePoints → Type 0
AreFramePointsOf f k v =
    (stacks : List (List ℕ)) × AreStacks v.stacks.frames.items stacks × frame_points.ArePoints f k (map (frame_point_of stacks) v.points.items)

-- the frame has more points than may be listed
abbrev pub HasTooMany : frames.Frame → ℕ → ℕ → PointsFault → Type 0
HasTooMany f k max (TooMany c) = frame_points.HasMore f k max × (c ≡ max + 1)
HasTooMany f k max Memory = Unit {0}
