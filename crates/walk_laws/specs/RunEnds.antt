-- After how many steps a run has ended.
use Rattle.std.specs.Prelude.{ℕ, ◌≡◌, ◌≤◌, ◌-◌, List, Some, length}
use Rattle.bilv_spec.specs.Run.{Program, Run, run, IsOver}
use Rattle.machine_spec.specs.Endings.{Start}
use Rattle.bilv_spec.specs.Verdict.{IsEntryState}
use Rattle.bilv_spec.specs.Points.{Point, ArePoints, HasMore}
use Rattle.bilv_spec.specs.Reports.{found, found_going}
use Rattle.bilv_spec.specs.Answers.{EndsAs}
use Rattle.bilv_spec.specs.PointLaws.{HasLawfulRows, ReadsMemory}

-- From an entry state a run has ended after as many steps as there are points, since it meets each point at most once.
abbrev pub RunsEndWithin : Type 0
RunsEndWithin = (p : Program) → HasLawfulRows p → ReadsMemory p → (k : ℕ) (start : Start) → IsEntryState p start.state →
    (points : List Point) → ArePoints p k points → IsOver (run p k start (length points))

-- where there are at most so many points, it has ended after so many steps
abbrev pub FewPointsEndRuns : Type 0
FewPointsEndRuns = (p : Program) → HasLawfulRows p → ReadsMemory p → (k : ℕ) (start : Start) → IsEntryState p start.state →
    (max : ℕ) → ¬ HasMore p k max → IsOver (run p k start max)

-- What is found in so many steps is then the end of the run: its exit, its event, or one backward transfer too many, and never that it would go on.
abbrev pub FewPointsAreFound : Type 0
FewPointsAreFound = (p : Program) → HasLawfulRows p → ReadsMemory p → (k : ℕ) (start : Start) → IsEntryState p start.state →
    (max : ℕ) → 1 ≤ max → ¬ HasMore p k max →
    (r : Run) × IsOver r × EndsAs p k start r × (found p (Some k) start (max - 1) ≡ found_going r)
