-- Trails: the literals that became true, in order, and the table of values that they make.
use Rattle.std.specs.Prelude.{◌≡◌, ℕ, ◌+◌, ◌≤◌, ◌<◌, Bool, false, List, [], ◌∷◌, ◌++◌, Option, length, reverse}
use Rattle.clause_spec.specs.Clauses.{Literal, Clause, opposite}
use Rattle.sat_core.specs.Tables.{true_in, open_count}
use Rattle.sat_core.specs.Steps.{told, AreSteps}
use Rattle.sat_core.specs.declared.trail.Step.{Step}

-- what is true before any step
abbrev pub nothing : Literal → Bool
nothing l = false

-- each literal was open before its step, and is over the variables of the table; the last step stands first
abbrev pub AreFresh : (size : ℕ) → List Step → Type 0
AreFresh size [] = Unit {0}
AreFresh size (s ∷ before) =
    ((s.lit.variable < size) × (told nothing before s.lit ≡ false) × (told nothing before (opposite s.lit) ≡ false)) × AreFresh size before

-- the steps make the table, and there is room for a step for each variable that is open
pub record IsTrail (table : List (Option Bool)) (steps : List Step) (capacity : ℕ) : Type 0 where
  pub told_by : (m : Literal) → true_in table m ≡ told nothing (reverse steps) m
  pub fresh : AreFresh (length table) (reverse steps)
  pub count : length steps + open_count table ≡ length table
  pub room : length table ≤ capacity

-- more steps, each of which a clause makes
abbrev pub IsRun : List Clause → List Step → List Step → Type 0
IsRun cs before after = (more : List Step) × (after ≡ before ++ more) × AreSteps cs (told nothing (reverse before)) (reverse more)
