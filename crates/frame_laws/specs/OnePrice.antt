-- A frame has one price.
use Rattle.std.specs.Prelude.{ℕ, ◌≡◌}
use Rattle.frame_spec.specs.Frames.{Frame}
use Rattle.frame_spec.specs.FramePoints.{IsPrice}
use Rattle.frame_spec.specs.FrameReports.{IsWholePrice}
use Rattle.frame_spec.specs.FrameVerdict.{Whole}

-- two prices of a frame are one
abbrev pub OneFramePrice : Type 0
OneFramePrice = (f : Frame) (k a b : ℕ) → IsPrice f k a → IsPrice f k b → a ≡ b

-- so are two of all frames of notes
abbrev pub OneWholePrice : Type 0
OneWholePrice = (w : Whole) (k a b : ℕ) → IsWholePrice w k a → IsWholePrice w k b → a ≡ b
