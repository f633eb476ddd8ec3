-- Laws of runs of two functions.
use Rattle.word_spec.specs.Texts.{line, joined}
use Rattle.std.specs.Prelude.{◌≤◌, ◌<◌, ◌^◌, length, ◌++◌, codes, ℕ, ◌≡◌, ◌↔◌, Bool, List}
use Rattle.word_spec.specs.State.{State, Written}
use Rattle.clause_spec.specs.Checks.{text_limit}
use Rattle.machine_spec.specs.StateText.{last_step}
use Rattle.call_spec.specs.Calls.{Options, Budget}
use Rattle.bilv_spec.specs.Files.{layout_of}
use Rattle.machine_spec.specs.Endings.{Start}
use Rattle.bilv_spec.specs.Run.{Program, Exited, run}
use Rattle.bilv_spec.specs.Verdict.{Holds, IsRight, IsEntryState}
use Rattle.bilv_spec.specs.Points.{Point, IsPoint}
use Rattle.bilv_spec.specs.Questions.{Reading, read_run}
use Rattle.pair_spec.specs.Links.{Link}
use Rattle.pair_spec.specs.Pairs.{ExitsIn, IsLinkedPair, ArePairedStarts, ExitApart, AreEqual, AreDifferent}
use Rattle.call_spec.specs.Calls.{plain_answer, Two}
use Rattle.pair_spec.specs.Equals.{Side, DiffersReport, IsRightPair, pair_text, differs_words}
use Rattle.pair_spec.specs.Differs.{by_starts, differ_answer}

-- A run that has exited did so by the step that it names, in a state; and one that exits in a state by a step has exited after it.
abbrev pub RunHasExit : Type 0
RunHasExit = (p : Program) (k : ℕ) (start : Start) (at n : ℕ) →
    ((steps : ℕ) × (run p k start steps ≡ Exited at n)) ↔ ((s : State) × ExitsIn p k start at n s)

-- a run exits in one state, by one step
abbrev pub OneExit : Type 0
OneExit = (p : Program) (k : ℕ) (start : Start) (at n b m : ℕ) (s t : State) → ExitsIn p k start at n s → ExitsIn p k start b m t →
    (at ≡ b) × (n ≡ m) × (s ≡ t)

-- equal functions are not different
abbrev pub EqualNotDifferent : Type 0
EqualNotDifferent = (a b : Program) (k : ℕ) (links : List Link) → AreEqual a b k links → ¬ AreDifferent a b k links

-- where both sides hold, there is a linked pair, and none exits apart, the functions are equal
abbrev pub NotDifferentIsEqual : Type 0
NotDifferentIsEqual = (a b : Program) (k : ℕ) (links : List Link) → IsRight a k Holds → IsRight b k Holds →
    ((s t : State) × IsLinkedPair a b links s t) → (¬ AreDifferent a b k links) → AreEqual a b k links

-- What is asked for at the exit changes no run, no entry state and no point.
abbrev pub AskingIsFree : Type 0
AskingIsFree = (p : Program) (out : ℕ → Bool) (k : ℕ) →
    ((start : Start) (n : ℕ) → run (record p { out = out }) k start n ≡ run p k start n)
    × ((r : Reading) (n : ℕ) → read_run (record p { out = out }) k r n ≡ read_run p k r n)
    × ((s : State) → IsEntryState (record p { out = out }) s ↔ IsEntryState p s)
    × ((point : Point) → IsPoint (record p { out = out }) k point ↔ IsPoint p k point)

-- The runs of paired starts that exit apart are found to, whatever the bound on their backward transfers was.
abbrev pub DifferenceIsFound : Type 0
DifferenceIsFound = (a b : Side) (k : ℕ) (links : List Link) (n i j : ℕ) (x y : Start) → ArePairedStarts a.program b.program links x y →
    ExitApart a.program b.program k links x y n i j →
    by_starts a b links (record { line = n; first = i; second = j }) x y ≡ plain_answer 0 (line (codes "replayed " ++ joined (differs_words n i j)))

-- The text of a right difference, whose numbers can be written and which is no longer than texts may be, is replayed.
abbrev pub DifferenceReplays : Type 0
DifferenceReplays = (o : Options) (file other : List ℕ) (p q : Program) (links : List Link) (budget : Budget) (n i j : ℕ) (x y : Written) →
    let a : Side = record { program = p; layout = layout_of o file } in
    let b : Side = record { program = q; layout = layout_of o other } in
    IsRightPair a b links budget (DiffersReport n i j) (Two x y) → n < 2 ^ 64 → i ≤ last_step → j ≤ last_step →
    length (pair_text a b budget (DiffersReport n i j) (Two x y)) ≤ text_limit →
    differ_answer a b links (pair_text a b budget (DiffersReport n i j) (Two x y)) ≡
    plain_answer 0 (line (codes "replayed " ++ joined (differs_words n i j)))
