-- After how many steps a segment has ended.
use Rattle.std.specs.Prelude.{ℕ, ◌≤◌, ◌<◌, List, length}
use Rattle.bilv_spec.specs.Verdict.{IsEntryState}
use Rattle.bilv_spec.specs.PointLaws.{HasLawfulRows, ReadsMemory}
use Rattle.frame_spec.specs.Frames.{Frame, IsContent}
use Rattle.frame_spec.specs.FrameRuns.{Start, Run, Going, Arriving, Calling, Exited, Failed, Turned, Cut, Broken, run, IsOver}
use Rattle.frame_spec.specs.FramePoints.{Point, ArePoints, HasMore}
use Rattle.frame_spec.specs.FrameVerdict.{IsOrigin, Whole, frame_of}
use Rattle.frame_spec.specs.FrameReports as whole
use Rattle.frame_spec.specs.FrameLaws.{HasPlaces}

-- the step that a run makes next, or its last
abbrev pub step_of : Run → ℕ
step_of (Going turns n c) = n
step_of (Arriving turns n c) = n
step_of (Calling turns n c) = n
step_of (Exited at n) = n
step_of (Failed e at n) = n
step_of (Turned at n) = n
step_of (Cut at n) = n
step_of (Broken line at n) = n

-- From an entry state, or a head state, a segment has ended after as many steps as there may be points, those of all anchors together. It meets each point of
-- its anchor at most once; an arrival is at no point of the anchor's, but then there is another anchor.
abbrev pub FewPointsEndSegments : Type 0
FewPointsEndSegments = (f : Frame) → HasLawfulRows f.program → ReadsMemory f.program → HasPlaces f.program → (k : ℕ) (start : Start) →
    IsEntryState f.program start.state → IsOrigin f k start.state start.head → ((i : ℕ) → IsContent (start.given i)) → (max : ℕ) → ¬ HasMore f k max →
    IsOver (run f k start max)

-- and the number of each of its steps is below that of all points
abbrev pub StepsAreFew : Type 0
StepsAreFew = (f : Frame) → HasLawfulRows f.program → ReadsMemory f.program → HasPlaces f.program → (k : ℕ) (start : Start) →
    IsEntryState f.program start.state → IsOrigin f k start.state start.head → ((i : ℕ) → IsContent (start.given i)) → (points : List Point) →
    ArePoints f k points → (steps : ℕ) → step_of (run f k start steps) < length points

-- where all frames together have at most so many points, each has
abbrev pub WholesAreFew : Type 0
WholesAreFew = (w : Whole) (k max rank : ℕ) → rank ≤ length w.contracts → ¬ whole.HasMore w k max → ¬ HasMore (frame_of w rank) k max
