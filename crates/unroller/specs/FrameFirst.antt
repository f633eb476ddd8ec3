-- The points of a frame within their segments.
use Rattle.std.specs.Prelude.{ℕ, ◌≡◌, ◌≤◌, ◌<◌, ◌⊎◌, true, false, []}
use Rattle.frame_spec.specs.Frames.{Frame, is_head}
use Rattle.frame_spec.specs.FramePoints.{Point, IsPoint, IsAnchor, first_of}

-- A point has at most k backward transfers, and its segment's first point is a point. One that has none is that first point, or has a greater address: so the
-- first point comes first by transfers and address. It alone may be at a head. Where no contract is stepped over, no contract step is made.
pub record IsOfSegment (f : Frame) (k : ℕ) (q : Point) : Type 0 where
  pub contract : f.stepped ≡ [] → q.contract ≡ false
  pub few : q.turns ≤ k
  pub anchor : IsAnchor f k q.anchor
  pub up : q.turns ≡ 0 → ((first_of f.program.entry q.anchor).at < q.at) ⊎ (q ≡ first_of f.program.entry q.anchor)
  pub head : is_head f q.at ≡ true → q ≡ first_of f.program.entry q.anchor

abbrev pub PointsAreOfSegments : Type 0
PointsAreOfSegments = (f : Frame) (k : ℕ) (q : Point) → IsPoint f k q → IsOfSegment f k q
