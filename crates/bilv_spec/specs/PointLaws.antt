-- Laws of points: runs go along edges, meet each point at most once, and there is one price.
use Rattle.std.specs.Prelude.{ℕ, ◌≡◌, ◌≤◌, ◌<◌, ◌⊎◌, true, List, Some, Contains, length}
use Rattle.word_spec.specs.Memory.{Little}
use Rattle.word_spec.specs.State.{State, IsState}
use Rattle.machine_spec.specs.Machine.{Row, IsAtPlace}
use Rattle.machine_spec.specs.MachineLaws.{IsLawful}
use Rattle.bilv_spec.specs.Run.{Program, Place, Step, Stops, Arrives, Exits, Going, step, run, in_memory, IsOver}
use Rattle.machine_spec.specs.Endings.{EnsureFails, Start}
use Rattle.bilv_spec.specs.Verdict.{IsEntryState}
use Rattle.bilv_spec.specs.Points.{Point, ToAddress, ToExit, end_of, edges, file_row, IsPoint, ArePoints, HasMore, IsPrice}
use Rattle.bilv_spec.specs.Graph.{ReturnLetter, successor, successors_at, may_return, IsAddress, LeadsTo}
use Rattle.bilv_spec.specs.Questions.{by_file, point_of}

-- one point is before another: it has fewer backward transfers, or as many and a lower address
abbrev pub ComesBefore : Point → Point → Type 0
ComesBefore x y = (x.turns < y.turns) ⊎ ((x.turns ≡ y.turns) × (x.at < y.at))

-- along every edge the number of backward transfers and then the address rise
abbrev pub EdgesRise : Type 0
EdgesRise = (point : Point) (stack : List ℕ) (a : ℕ) → ComesBefore point (end_of point stack a)

-- the points of a run rise, so that it meets a point at most once
abbrev pub RunsRise : Type 0
RunsRise = (p : Program) (k : ℕ) (start : Start) (i j : ℕ) → i < j → (turns n later m : ℕ) (c d : Place) →
    run p k start i ≡ Going turns n c → run p k start j ≡ Going later m d → ComesBefore (point_of turns c) (point_of later d)

-- the rows of the file keep the laws of rows
abbrev pub HasLawfulRows : Program → Type 0
HasLawfulRows p = (a : ℕ) (row : Row) → file_row p a ≡ Some row → IsLawful row

-- what is decoded at an address is what memory has there; where some rows have 2 bytes, the lowest byte stands first
pub record ReadsMemory (p : Program) : Type 0 where
  pub word : (s : State) (a : ℕ) → p.word s a ≡ in_memory p.machine s a
  pub little : p.machine.narrow ≡ true → p.machine.endian ≡ Little

-- the step goes along an edge of the point, or exits or has a false ensure line where an edge is the exit, or has another event
abbrev pub GoesAlong : Program → Point → Step → Type 0
GoesAlong p point (Arrives c) = Contains (edges p point) (ToAddress c.stack c.state.pc) × IsState c.state
GoesAlong p point (Exits s) = Contains (edges p point) ToExit
GoesAlong p point (Stops (EnsureFails line)) = Contains (edges p point) ToExit
GoesAlong p point (Stops e) = Unit {0}

-- a step by the words of the file goes along an edge of its point
abbrev pub StepsAlongEdges : Type 0
StepsAlongEdges = (p : Program) → HasLawfulRows p → (turns choice : ℕ) (entry : State) (c : Place) → IsState c.state →
    GoesAlong p (point_of turns c) (step (by_file p) entry c choice)

-- a run by the words of the file meets points alone
abbrev pub RunsMeetPoints : Type 0
RunsMeetPoints = (p : Program) → HasLawfulRows p → (k : ℕ) (start : Start) → IsState start.state → start.state.pc ≡ p.entry →
    (steps turns n : ℕ) (c : Place) → run (by_file p) k start steps ≡ Going turns n c → IsPoint p k (point_of turns c)

-- an address that a return may go to: the one behind a call of the graph
abbrev pub IsReturnAddress : Program → ℕ → Type 0
IsReturnAddress p b = (a : ℕ) × IsAddress p a × Contains (successors_at p a) (successor ReturnLetter b)

-- The graph is closed under the successors of every stack: it has the address of the point, and those of its stack (one at which no row can stand is never
-- gone to); each edge is a static path; and where an edge is the exit, the row may return.
pub record IsInGraph (p : Program) (point : Point) : Type 0 where
  pub at : IsAddress p point.at
  pub stack : (b : ℕ) → Contains point.stack b → IsAtPlace p.machine.narrow b → IsReturnAddress p b
  pub leads : (stack : List ℕ) (a : ℕ) → Contains (edges p point) (ToAddress stack a) → LeadsTo p point.at a
  pub exits : Contains (edges p point) ToExit → may_return p point.at ≡ true

-- each point is in the graph
abbrev pub PointsAreInGraph : Type 0
PointsAreInGraph = (p : Program) (k : ℕ) (point : Point) → IsPoint p k point → IsInGraph p point

-- there is at most one price
abbrev pub OnePrice : Type 0
OnePrice = (p : Program) (k a b : ℕ) → IsPrice p k a → IsPrice p k b → a ≡ b

-- a list of all points that has at most so many leaves no room for more
abbrev pub NoMorePoints : Type 0
NoMorePoints = (p : Program) (k max : ℕ) (points : List Point) → ArePoints p k points → length points ≤ max → ¬ HasMore p k max

-- The words that a run executes, and those of its pairs and literals, are the file's, since no kept byte is written before the run ends: from an entry state
-- the run that reads words in memory is the run that reads them in the file.
abbrev pub RunsByFile : Type 0
RunsByFile = (p : Program) → HasLawfulRows p → ReadsMemory p → (k : ℕ) (start : Start) → IsEntryState p start.state →
    (steps : ℕ) → run p k start steps ≡ run (by_file p) k start steps

-- from an entry state a run ends, whatever the bound on its backward transfers is
abbrev pub RunsEnd : Type 0
RunsEnd = (p : Program) → HasLawfulRows p → ReadsMemory p → (k : ℕ) (start : Start) → IsEntryState p start.state → (steps : ℕ) × IsOver (run p k start steps)
