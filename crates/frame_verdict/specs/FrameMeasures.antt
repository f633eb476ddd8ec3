-- What unrolled frames come to by the budgets.
use Rattle.std.specs.Prelude.{ℕ, ◌≡◌, ◌≢◌, ◌<◌, ◌+◌, ◌-◌, ◌^◌, Contains, List, Some, length, slice_get, slice_index_or, sum_by}
use Rattle.std.specs.List.{AllZip}
use Rattle.word_spec.specs.RowFiles.{from_to}
use Rattle.call_spec.specs.Calls.{Budget}
use Rattle.machine_spec.specs.StateText.{Layout}
use Rattle.walk_spec.specs.Unrolled.{byte_of_runs}
use Rattle.frame_spec.specs.Frames.{Contract, Frame}
use Rattle.frame_spec.specs.FrameLaws.{HasPlaces}
use Rattle.frame_spec.specs.FramePoints.{IsPoint, IsPrice, Point}
use Rattle.frame_spec.specs.FrameReports.{IsWithin, RankedPoint, last_rank}
use Rattle.frame_spec.specs.FrameVerdict.{Whole, frame_of}
use Rattle.frame_terms.specs.PassiveFrames.{IsWalkable}
use Rattle.known_bytes.specs.Runs.{AreRuns}
use Rattle.question_form.specs.Forms.{IsFormed, AreRootsFormed, AreStepsFormed}
use Rattle.question_form.specs.FrameViews.{frame_unrolled_of}
use Rattle.question_form.specs.declared.unrolled.Unrolled.{Unrolled}
use Rattle.passify.specs.Planted.{AreHeaded}
use Rattle.unroller.specs.RootPoints.{BeginAtOwn, IsEntryFirst}
use Rattle.frame_rounds.specs.FrameGrounds.{IsFrameGround}
use Rattle.frame_verdict.specs.FrameCertificates.{IsFrameExceeded}
use Rattle.frame_verdict.specs.declared.measuring.Frames.{Frames}
use Rattle.frame_verdict.specs.declared.measuring.Left.{Left}
use Rattle.frame_verdict.specs.declared.measuring.Measured.{Measured}
use Rattle.frame_verdict.specs.declared.measuring.MeasuredContracts.{MeasuredContracts}
use Rattle.frame_verdict.specs.declared.measuring.Weighed.{Weighed}
use Rattle.frame_verdict.specs.declared.measuring.Weighed.TheVariants.{Within, Exceeded}

-- an unrolled frame of which a passive one can be made, and then questions asked
pub record IsFrameMeasurable (u : Unrolled) : Type 0 where
  pub walkable : IsWalkable (frame_unrolled_of u)
  pub formed : IsFormed u
  pub roots : AreRootsFormed u
  pub steps : AreStepsFormed u
  pub headed : AreHeaded u
  pub own : BeginAtOwn u
  pub first : IsEntryFirst u
  pub bytes : (a b : ℕ) → byte_of_runs (frame_unrolled_of u).known a ≡ Some b → b < 256
  pub runs : AreRuns u.known.items

-- it is that of a frame, whose rows stand at places
pub record IsFrameUnrolled (f : Frame) (contracts : List Contract) (k : ℕ) (layout : Layout) (u : Unrolled) : Type 0 where
  pub measurable : IsFrameMeasurable u
  pub places : HasPlaces f.program
  pub ground : IsFrameGround f contracts k layout u

-- those of the frames below a rank are, in order
pub record AreUnrolledTo (w : Whole) (k rank : ℕ) (layout : Layout) (list : List Unrolled) : Type 0 where
  pub count : length list ≡ rank
  pub each : (r : ℕ) (d : Unrolled) → r < rank → IsFrameUnrolled (frame_of w r) w.contracts k layout (slice_index_or list r d)

-- so are those of all contracts, and the function's own
pub record AreAllUnrolled (w : Whole) (k : ℕ) (layout : Layout) (x : Frames) : Type 0 where
  pub contracts : AreUnrolledTo w k (last_rank w) layout x.contracts.items
  pub own : IsFrameUnrolled (frame_of w (last_rank w)) w.contracts k layout x.own

-- the points of the frames below a rank, each once
pub record ArePointsBelow (w : Whole) (k rank : ℕ) (list : List RankedPoint) : Type 0 where
  pub all : (i : ℕ) (q : Point) → i < rank → IsPoint (frame_of w i) k q → Contains list (i, q)
  pub only : (x : RankedPoint) → Contains list x → (x.0 < rank) × IsPoint (frame_of w x.0) k x.1
  pub once : (i j : ℕ) → i < j → j < length list → slice_get list i ≢ slice_get list j

-- the price of those frames together
abbrev pub IsPriceBelow : Whole → (k rank price : ℕ) → Type 0
IsPriceBelow w k rank price =
    (prices : List ℕ) × AllZip (λ r n. IsPrice (frame_of w r) k n) (from_to 0 rank) prices × (price ≡ sum_by (λ n. n) prices)

-- What is left of so many points behind the frames below a rank, and their price, if it is a number.
pub record AreMeasured (w : Whole) (k max rank : ℕ) (left : Left) : Type 0 where
  pub list : List RankedPoint
  pub are : ArePointsBelow w k rank list
  pub points : length list + left.points ≡ max
  pub price : left.price ≢ 2 ^ 128 - 1 → IsPriceBelow w k rank left.price

-- the frame of a rank is unrolled, and measured behind those of lower ranks
pub record IsMeasuredTo (w : Whole) (rank : ℕ) (layout : Layout) (b : Budget) (x : Measured) : Type 0 where
  pub unrolled : IsFrameUnrolled (frame_of w rank) w.contracts b.unroll layout x.unrolled
  pub left : AreMeasured w b.unroll b.points (rank + 1) x.left

-- the frames of the contracts below a rank are unrolled, and measured
pub record AreContractsMeasured (w : Whole) (rank : ℕ) (layout : Layout) (b : Budget) (x : MeasuredContracts) : Type 0 where
  pub unrolled : AreUnrolledTo w b.unroll rank layout x.frames.items
  pub left : AreMeasured w b.unroll b.points rank x.left

-- All frames are within the budgets, and unrolled; or a budget is exceeded.
abbrev pub IsWeighed : Whole → Layout → Budget → Weighed → Type 0
IsWeighed w layout b (Within x) = IsWithin w b × AreAllUnrolled w b.unroll layout x
IsWeighed w layout b (Exceeded e) = IsFrameExceeded w b e
