-- Two bounds on backward transfers: how two functions exit, and what the questions about both are true of, within the one as within the other.
use Rattle.std.specs.Prelude.{ℕ, ◌≤◌, List}
use Rattle.word_spec.specs.State.{State}
use Rattle.machine_spec.specs.Endings.{Start}
use Rattle.bilv_spec.specs.Run.{Program}
use Rattle.bilv_spec.specs.Questions.{IsSatisfiable}
use Rattle.call_spec.specs.Calls.{PairQuestion, TurnQuestion}
use Rattle.pair_spec.specs.Links.{Link}
use Rattle.pair_spec.specs.Pairs.{AreEqual, ExitApart, ExitsIn, IsTrueOfPair, Readings}

-- a run that exits within a bound exits by the same step, in the same state, within every greater one
abbrev pub ExitsRise : Type 0
ExitsRise = (p : Program) (k m : ℕ) → k ≤ m → (start : Start) (at n : ℕ) (s : State) → ExitsIn p k start at n s → ExitsIn p m start at n s

-- so functions that are equal stay equal, and exits that differ are the same exits
abbrev pub PairsRise : Type 0
PairsRise = (a b : Program) (k m : ℕ) → k ≤ m → (links : List Link) →
    (AreEqual a b k links → AreEqual a b m links)
    × ((x y : Start) (line i j : ℕ) → ExitApart a b k links x y line i j → ExitApart a b m links x y line i j)

-- no run of the function makes more backward transfers than the bound
abbrev pub NoneExceeds : Program → ℕ → Type 0
NoneExceeds p k = ¬ IsSatisfiable p k TurnQuestion

-- what the questions about both are true of within a bound, they are true of within each smaller bound that no run of either exceeds
abbrev pub PairQuestionsFall : Type 0
PairQuestionsFall = (a b : Program) (k m : ℕ) → k ≤ m → NoneExceeds a k → NoneExceeds b k → (links : List Link) (question : PairQuestion) (r : Readings) →
    IsTrueOfPair a b m links r question → IsTrueOfPair a b k links r question
