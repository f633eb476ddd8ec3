-- What an unrolled program comes to by the budgets.
use Rattle.std.specs.Prelude.{◌≡◌, ◌≤◌, ◌<◌, length}
use Rattle.call_spec.specs.Calls.{Budget}
use Rattle.bilv_spec.specs.Answers.{IsWithin}
use Rattle.bilv_spec.specs.Points.{HasMore, IsPrice}
use Rattle.bilv_spec.specs.Run.{Program}
use Rattle.machine_spec.specs.StateText.{Layout}
use Rattle.known_bytes.specs.Runs.{AreRuns}
use Rattle.question_form.specs.Forms.{IsFormed, AreRootsFormed}
use Rattle.question_form.specs.FrameViews.{IsHeadless}
use Rattle.question_form.specs.Views.{unrolled_of}
use Rattle.question_form.specs.declared.unrolled.Unrolled.{Unrolled}
use Rattle.walk_spec.specs.Unrolling.{IsWalkable}
use Rattle.frame_start.specs.Segments.{IsFrameAskable}
use Rattle.verdict.specs.Grounds.{IsGround}
use Rattle.verdict.specs.Rounds.{HasBytes, IsAskable}
use Rattle.verdict.specs.declared.measuring.Measured.{Measured}
use Rattle.verdict.specs.declared.measuring.Weighed.{Weighed}
use Rattle.verdict.specs.declared.measuring.Weighed.TheVariants as weighed
use Rattle.verdict.specs.declared.measuring.Measured.TheVariants.{Above, Within}

-- an unrolled program of which a passive one can be made, and then questions asked
pub record IsMeasurable (u : Unrolled) : Type 0 where
  pub walkable : IsWalkable (unrolled_of u)
  pub formed : IsFormed u
  pub headless : IsHeadless u
  pub roots : AreRootsFormed u
  pub bytes : HasBytes (unrolled_of u)
  pub runs : AreRuns u.known.items

-- it is that of a program, with no more points than the budget
pub record IsUnrolledOf (p : Program) (layout : Layout) (b : Budget) (u : Unrolled) : Type 0 where
  pub measurable : IsMeasurable u
  pub ground : IsGround p b.unroll layout (unrolled_of u)
  pub few : length (unrolled_of u).points ≤ b.points

-- The price of a program is above the budget, or the program is within the budgets.
abbrev pub IsWeighed : Budget → Unrolled → Weighed → Type 0
IsWeighed b u (weighed.Above price) =
    (p : Program) (layout : Layout) → IsUnrolledOf p layout b u → (¬ HasMore p b.unroll b.points) × IsPrice p b.unroll price × (b.size < price)
IsWeighed b u (weighed.Within price) = (p : Program) (layout : Layout) → IsUnrolledOf p layout b u → IsWithin p b

-- The price of a program is above the budget; or the program is within the budgets, and this is the passive program of the unrolled one.
abbrev pub IsMeasured : Budget → Unrolled → Measured → Type 0
IsMeasured b u (Above price) =
    (p : Program) (layout : Layout) → IsUnrolledOf p layout b u → (¬ HasMore p b.unroll b.points) × IsPrice p b.unroll price × (b.size < price)
IsMeasured b u (Within q) =
    IsAskable q × ((p : Program) (layout : Layout) → IsUnrolledOf p layout b u → IsWithin p b × IsGround p b.unroll layout (unrolled_of q.unrolled.now))
    × (q.unrolled.now ≡ u) × IsFrameAskable q
