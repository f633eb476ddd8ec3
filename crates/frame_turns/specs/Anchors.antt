-- Two unrolled frames of a frame, for two bounds on backward transfers: where they have equally many roots, their segments begin at the same anchors.
use Rattle.std.specs.Prelude.{ℕ, ◌≡◌, ◌≤◌, List, length}
use Rattle.frame_spec.specs.Frames.{Contract, Frame}
use Rattle.frame_spec.specs.FramePoints.{Point, IsPoint}
use Rattle.frame_spec.specs.FrameWalk.{UnrolledProgram}
use Rattle.frame_spec.specs.FrameUnrolling.{IsUnrolling}
use Rattle.frame_turns.specs.Bounds.{SameAnchors}

-- the points of a frame within a bound are points within a greater one
abbrev pub FramePointsRise : Type 0
FramePointsRise = (f : Frame) (k m : ℕ) → k ≤ m → (q : Point) → IsPoint f k q → IsPoint f m q

-- Each anchor has one root, so equally many roots are those of the same anchors.
abbrev pub AnchorsCount : Type 0
AnchorsCount = (f : Frame) (contracts : List Contract) (k m : ℕ) → k ≤ m → (low high : UnrolledProgram) → IsUnrolling f contracts k low →
    IsUnrolling f contracts m high → length low.roots ≡ length high.roots → SameAnchors f k m
