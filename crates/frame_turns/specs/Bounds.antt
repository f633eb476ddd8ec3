-- Two bounds on backward transfers: how the segments of a frame, the questions and the verdicts within the one are those within the other.
use Rattle.std.specs.Prelude.{ℕ, ◌≡◌, ◌≢◌, ◌≤◌, ◌⊎◌, ◌↔◌, Bool}
use Rattle.frame_spec.specs.Frames.{Frame}
use Rattle.frame_spec.specs.FrameRuns.{Start, Run, Going, Arriving, Calling, Exited, Failed, Turned, Cut, Broken, run}
use Rattle.frame_spec.specs.FramePoints.{Anchor, IsAnchor}
use Rattle.frame_spec.specs.FrameQuestions.{Question, TurnQuestion, Reading, IsTrueOver, read_run}
use Rattle.frame_spec.specs.FrameVerdict.{IsStart, RunExits, RunFails, RunTurns, RunIsCut, RunBreaks, Verdict, NotInductive, Unroll, IsRight}

-- the segment has made one backward transfer too many
abbrev pub HasTurned : Run → Type 0
HasTurned (Going turns n c) = ⊥
HasTurned (Arriving turns n c) = ⊥
HasTurned (Calling turns n c) = ⊥
HasTurned (Exited at n) = ⊥
HasTurned (Failed e at n) = ⊥
HasTurned (Turned at n) = Unit {0}
HasTurned (Cut at n) = ⊥
HasTurned (Broken line at n) = ⊥

-- After any number of steps a segment within a bound has made one backward transfer too many, or is where the segment within a greater bound is. Only those
-- transfers are counted that do not lead to a head.
abbrev pub FrameRunsGoAlike : Type 0
FrameRunsGoAlike = (f : Frame) (k m : ℕ) → k ≤ m → (start : Start) (steps : ℕ) →
    HasTurned (run f k start steps) ⊎ (run f m start steps ≡ run f k start steps)

-- so that both are the same where it never makes one too many
abbrev pub FrameRunsSame : Type 0
FrameRunsSame = (f : Frame) (k m : ℕ) → k ≤ m → (start : Start) → ¬ RunTurns f k start → (steps : ℕ) → run f m start steps ≡ run f k start steps

-- so it is with the segments of a reading
abbrev pub FrameReadingsGoAlike : Type 0
FrameReadingsGoAlike = (f : Frame) (k m : ℕ) → k ≤ m → (r : Reading) (anchor : Anchor) (steps : ℕ) →
    HasTurned (read_run f k r anchor steps) ⊎ (read_run f m r anchor steps ≡ read_run f k r anchor steps)

-- how a segment ends within two bounds
pub record HasEnds (f : Frame) (k m : ℕ) (start : Start) : Type 0 where
  pub exits : RunExits f k start → RunExits f m start
  pub fails : RunFails f k start → RunFails f m start
  pub cuts : RunIsCut f k start → RunIsCut f m start
  pub breaks : RunBreaks f k start → RunBreaks f m start
  pub turns : RunTurns f m start → RunTurns f k start
  pub failed : RunFails f m start → RunFails f k start ⊎ RunTurns f k start

-- within a greater bound, segments end as within the smaller one, as far as they do not make one backward transfer too many within that
abbrev pub FrameEndsRise : Type 0
FrameEndsRise = (f : Frame) (k m : ℕ) → k ≤ m → (start : Start) → HasEnds f k m start

-- A start whose segment has an event within a bound is a start within every greater bound: an anchor within the one is an anchor within the other, and what its
-- contract steps are given breaks no line there either.
abbrev pub FrameStartsRise : Type 0
FrameStartsRise = (f : Frame) (k m : ℕ) → k ≤ m → (start : Start) → IsStart f k start → RunFails f k start → IsStart f m start × RunFails f m start

-- the greater bound has no more anchors
abbrev pub SameAnchors : Frame → (k m : ℕ) → Type 0
SameAnchors f k m = (x : Anchor) → IsAnchor f m x → IsAnchor f k x

-- no reading makes the question over the bytes of the file that are asked true
abbrev pub NeverTrue : Frame → (asked : ℕ → Bool) → ℕ → Question → Type 0
NeverTrue f asked k question = (r : Reading) → ¬ IsTrueOver f asked k r question

-- Where no reading makes the turn question of a bound true, and a greater bound has no more anchors, each question over the same bytes is true of the same
-- readings within both; so no reading makes the turn question of the greater bound true.
abbrev pub FrameQuestionsRise : Type 0
FrameQuestionsRise = (f : Frame) (asked : ℕ → Bool) (k m : ℕ) → k ≤ m → SameAnchors f k m → NeverTrue f asked k TurnQuestion →
    (r : Reading) (question : Question) → IsTrueOver f asked k r question ↔ IsTrueOver f asked m r question

-- Where a greater bound has no more anchors, a verdict is right within it that is right within the smaller: but that the bound is too small, and that only
-- segments from head states have events, since one from an entry state may have one after more backward transfers.
abbrev pub FrameVerdictsRise : Type 0
FrameVerdictsRise = (f : Frame) (k m : ℕ) → k ≤ m → SameAnchors f k m → (v : Verdict) → v ≢ NotInductive → v ≢ Unroll → IsRight f k v → IsRight f m v
