-- What is held, but for memory that no machine sees.
use Rattle.std.specs.Prelude.{ℕ, ◌≡◌, ◌<◌, length}
use Rattle.frame_spec.specs.FrameWalk as frames
use Rattle.frame_spec.specs.FrameWalk.{Gift, StepsOver, UnrolledProgram, point_at}
use Rattle.low_memory.specs.LowWalks.{low_held}

-- no contract step is made
abbrev pub HasNoSteps : UnrolledProgram → Type 0
HasNoSteps u = (i : ℕ) (x : Gift) → i < length u.points → (point_at u i).does ≡ StepsOver x → ⊥

-- The same is held in a frame, but for memory that no machine sees; and all the same where no contract step is made.
pub record IsLike (u : UnrolledProgram) (g h : frames.Held) : Type 0 where
  pub low : low_held g ≡ low_held h
  pub exact : HasNoSteps u → g ≡ h
